-- A data cell that is not at level 0 is no outlet: where every side is open it lies within the border. Two such neighbours are equal: the
-- higher would have a drop.
use mathlib.Core.Path.{◌≡◌, sym, subst}
use mathlib.Core.Bool.{true, false, ◌||◌}
use mathlib.Core.Logic.{⊎_elim}
use mathlib.Core.List.{List}
use Prim.Native.Nat.{ℕ, ◌/◌, ◌%◌, ◌<◌}
use lib.IntN.{ℤ}
use lib.Signed.{◌≤ℤ◌}
use Rattle.grid.specs.declared.Grid.{Grid}
use Rattle.grid.specs.Sheet.{size, at, is_data, neighbour}
use Rattle.grid.specs.Outlet.{is_outlet}
use Rattle.grid.specs.Directions.{is_level_zero, has_descent}
use Rattle.grid_laws.proofs.Tests.{test, true_false, and_rest_false, or_none_left, or_none_right}
use Rattle.grid_laws.proofs.Order.{≤ℤ-antisym, ≤ℤ-or-<}
use Rattle.grid_laws.proofs.Neighbours.{opposite, opposite_small, step_back}
use Rattle.cells.specs.Steps.{Inner}
use Rattle.cells.proofs.Within.{outlet_free}
use Rattle.flow_laws.specs.Words.{level_in, Searching}
use Rattle.flow_laws.proofs.Steepest.{descends}

-- during the search a cell whose level is not 0 is no cell of level 0
pub other_flat : (g : Grid) (e : List ℤ) (c : ℕ) → c < size g → (half : ℕ) (work : List ℕ) {seen head tail : ℕ}
    → Searching g e half work seen head tail → (level_in (size g) work c ≡ 1 → ⊥) → is_level_zero g e c ≡ false
other_flat g e c on half work S f = ⊎_elim (λ z. absurd (f (S.search.zero_has c on z))) (λ z. z) (test (is_level_zero g e c))

module _ (g : Grid) (e : List ℤ) where
  flat_no_outlet : (c : ℕ) → is_data e c ≡ true → is_level_zero g e c ≡ false → is_outlet g e c ≡ false
  unfolding is_level_zero
  flat_no_outlet c d z =
      or_none_left (is_outlet g e c) (has_descent g e c) (and_rest_false (is_data e c) (is_outlet g e c || has_descent g e c) d z)

  pub flat_within : (c : ℕ) → c < size g → is_data e c ≡ true → is_level_zero g e c ≡ false → g.sides ≡ 0
      → Inner g (c / g.cols) (c % g.cols)
  flat_within c on d z sides = outlet_free g c on sides e d (flat_no_outlet c d z)

  -- no neighbour of such a cell is lower
  not_lower : (c p : ℕ) → is_data e c ≡ true → is_level_zero g e c ≡ false → p < 8 → is_data e (neighbour g c p) ≡ true
      → at e c ≤ℤ at e (neighbour g c p)
  unfolding is_level_zero
  not_lower c p d z h n =
      let rest = and_rest_false (is_data e c) (is_outlet g e c || has_descent g e c) d z in
      ⊎_elim (λ l. l) (λ l. true_false (descends g e c p h n l) (or_none_right (is_outlet g e c) (has_descent g e c) rest))
      (≤ℤ-or-< (at e c) (at e (neighbour g c p)))

  pub flat_alike : (c p : ℕ) → c < size g → p < 8 → neighbour g c p < size g → is_data e c ≡ true → is_data e (neighbour g c p) ≡ true
      → is_level_zero g e c ≡ false → is_level_zero g e (neighbour g c p) ≡ false → at e (neighbour g c p) ≡ at e c
  flat_alike c p on h there d n z y = ≤ℤ-antisym up (not_lower c p d z h n)
    where
      back : neighbour g (neighbour g c p) (opposite p) ≡ c
      back = step_back g c p h on there

      up : at e (neighbour g c p) ≤ℤ at e c
      up =
          subst (λ (x : ℕ). at e (neighbour g c p) ≤ℤ at e x) back
          (not_lower (neighbour g c p) (opposite p) n y (opposite_small p h) (subst (λ (x : ℕ). is_data e x ≡ true) (sym back) d))

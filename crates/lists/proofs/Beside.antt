-- Two cells of the sheet are neighbours exactly if they are at most one row and one column apart, and are two. One step leads from a row to
-- one at most one apart; and for rows and columns that are so there is a position with that step, unless both are the same.
use mathlib.Core.Path.{◌≡◌, refl, sym, ◌∙◌, ap, ap₂}
use mathlib.Core.Bool.{true, false, not, ◌&&◌}
use Prim.Native.Nat.{ℕ, zero, suc, ◌+◌, ◌-◌, ◌*◌, ◌/◌, ◌%◌, ◌≤◌, ◌<◌}
use native.Mathlib.Nat.{div-add-mod', div-lt_iff_lt-mul, mod-lt}
use native.Mathlib.Omega.{arith}
use lib.Dec.{eqb, leb}
use borrow.Author.Tests.{eq-eqb, eqb-true, le-leb, leb-true}
use Rattle.grid.specs.declared.Grid.{Grid}
use Rattle.grid.specs.Sheet.{size, neighbour}
use Rattle.grid.specs.Endings.{are_neighbours}
use Rattle.lists.specs.Beside.{are_close, are_beside}
use Rattle.grid_laws.proofs.Tests.{true_false, not_true_false, and_true, and_left, and_right, not_of_false, not_is_true, same_test}
use Rattle.grid_laws.proofs.Below.{any_of, some_of_any}
use Rattle.grid_laws.proofs.Neighbours.{down, right, position_at_step, down_small, right_small, cols_positive, Stays, stays}
use Rattle.grid_laws.proofs.Neighbours.{neighbour_in, neighbour_row, neighbour_col, steps_move}

abbrev Close : ℕ → ℕ → Type 0
Close x y = (x ≤ y + 1) × (y ≤ x + 1)

close_yes : (x y : ℕ) → Close x y → are_close x y ≡ true
unfolding are_close
close_yes x y (a, b) = and_true (le-leb x (y + 1) a) (le-leb y (x + 1) b)

pub yes_close : (x y : ℕ) → are_close x y ≡ true → Close x y
unfolding are_close
yes_close x y t =
    let a = and_left (leb x (y + 1)) (leb y (x + 1)) t in
    let b = and_right (leb x (y + 1)) (leb y (x + 1)) t in
    (leb-true x (y + 1) a, leb-true y (x + 1) b)

module _ (r q s t : ℕ) where
  -- the tests, in the order in which they are made
  pub rows_apart : are_close r s ≡ false → false ≡ are_beside r q s t
  unfolding are_beside
  rows_apart e = rw e refl

  pub cols_apart : are_close r s ≡ true → are_close q t ≡ false → false ≡ are_beside r q s t
  unfolding are_beside
  cols_apart e f = rw (e, f) refl

  pub by_step : are_close r s ≡ true → are_close q t ≡ true → not (eqb (3 * (s + 1 - r) + (t + 1 - q)) 4) ≡ are_beside r q s t
  unfolding are_beside
  by_step e f =
      let (a, b) = yes_close r s e in
      let (d, c) = yes_close q t f in
      rw (e, f)
      (ap not
      (same_test (eqb (3 * (s + 1 - r) + (t + 1 - q)) 4) (eqb r s && eqb q t)
      (λ y.
      let h = eqb-true (3 * (s + 1 - r) + (t + 1 - q)) 4 y in and_true (eq-eqb r s (omega arith)) (eq-eqb q t (omega arith)))
      (λ y.
      let u = eqb-true r s (and_left (eqb r s) (eqb q t) y) in
      let v = eqb-true q t (and_right (eqb r s) (eqb q t) y) in
      eq-eqb (3 * (s + 1 - r) + (t + 1 - q)) 4 (omega arith))))

  -- what they come to
  record Beside : Type 0 where
    rows : Close r s
    cols : Close q t
    two : (r ≡ s) × (q ≡ t) → ⊥

  beside_yes : Beside → are_beside r q s t ≡ true
  unfolding are_beside
  beside_yes b =
      and_true (and_true (close_yes r s b.rows) (close_yes q t b.cols))
      (not_of_false
      (not_true_false (eqb r s && eqb q t)
      (λ e. b.two (eqb-true r s (and_left (eqb r s) (eqb q t) e), eqb-true q t (and_right (eqb r s) (eqb q t) e)))))

  yes_beside : are_beside r q s t ≡ true → Beside
  unfolding are_beside
  yes_beside e =
      let close = and_left (are_close r s && are_close q t) (not (eqb r s && eqb q t)) e in
      let two = not_is_true (eqb r s && eqb q t) (and_right (are_close r s && are_close q t) (not (eqb r s && eqb q t)) e) in
      record {
        rows = yes_close r s (and_left (are_close r s) (are_close q t) close);
        cols = yes_close q t (and_right (are_close r s) (are_close q t) close);
        two = λ h. true_false (and_true (eq-eqb r s h.0) (eq-eqb q t h.1)) two;
      }

-- the position with the step of i - 1 rows and j - 1 columns
record StepTo (i j : ℕ) : Type 0 where
  position : position_at_step (3 * i + j) < 8
  rows : down (position_at_step (3 * i + j)) ≡ i
  cols : right (position_at_step (3 * i + j)) ≡ j

step_to : (i j : ℕ) → i < 3 → j < 3 → ((i ≡ 1) × (j ≡ 1) → ⊥) → StepTo i j
step_to zero zero a b n = record { position = omega arith; rows = refl; cols = refl }
step_to zero (suc zero) a b n = record { position = omega arith; rows = refl; cols = refl }
step_to zero (suc (suc zero)) a b n = record { position = omega arith; rows = refl; cols = refl }
step_to (suc zero) zero a b n = record { position = omega arith; rows = refl; cols = refl }
step_to (suc zero) (suc zero) a b n = absurd (n (refl, refl))
step_to (suc zero) (suc (suc zero)) a b n = record { position = omega arith; rows = refl; cols = refl }
step_to (suc (suc zero)) zero a b n = record { position = omega arith; rows = refl; cols = refl }
step_to (suc (suc zero)) (suc zero) a b n = record { position = omega arith; rows = refl; cols = refl }
step_to (suc (suc zero)) (suc (suc zero)) a b n = record { position = omega arith; rows = refl; cols = refl }
step_to zero (suc (suc (suc j))) a b n = let z : ⊥ = omega arith in absurd z
step_to (suc zero) (suc (suc (suc j))) a b n = let z : ⊥ = omega arith in absurd z
step_to (suc (suc zero)) (suc (suc (suc j))) a b n = let z : ⊥ = omega arith in absurd z
step_to (suc (suc (suc i))) j a b n = let z : ⊥ = omega arith in absurd z

module _ (g : Grid) (c n : ℕ) (hc : c < size g) (hn : n < size g) where
  pc : 0 < g.cols
  pc = cols_positive g c hc

  -- a step leads one row and one column further at most, and away
  step_beside : (p : ℕ) → p < 8 → neighbour g c p ≡ n → Beside (c / g.cols) (c % g.cols) (n / g.cols) (n % g.cols)
  step_beside p h e =
      let s : Stays g c p = stays g c p h (omega arith) in
      let row : n / g.cols ≡ c / g.cols + down p - 1 = ap (λ (x : ℕ). x / g.cols) (sym e) ∙ neighbour_row g c p h s in
      let col : n % g.cols ≡ c % g.cols + right p - 1 = ap (λ (x : ℕ). x % g.cols) (sym e) ∙ neighbour_col g c p h s in
      let i = down_small p h in
      let j = right_small p h in
      let a = s.low in
      let b = s.left_most in
      record {
        rows = (omega arith, omega arith);
        cols = (omega arith, omega arith);
        two = λ q. let u = q.0 in let v = q.1 in steps_move p h (omega arith, omega arith);
      }

  neighbours_beside : are_neighbours g c n ≡ true → are_beside (c / g.cols) (c % g.cols) (n / g.cols) (n % g.cols) ≡ true
  unfolding are_neighbours
  neighbours_beside t =
      let w = some_of_any 8 (λ p. eqb (neighbour g c p) n) t in
      beside_yes _ _ _ _ (step_beside w.0 w.1 (eqb-true (neighbour g c w.0) n w.2))

  beside_neighbours : Beside (c / g.cols) (c % g.cols) (n / g.cols) (n % g.cols) → are_neighbours g c n ≡ true
  unfolding are_neighbours
  beside_neighbours w =
      let (a, b) = w.rows in
      let (d, e) = w.cols in
      let i = n / g.cols + 1 - c / g.cols in
      let j = n % g.cols + 1 - c % g.cols in
      let row : n / g.cols < g.rows = (div-lt_iff_lt-mul pc).1 hn in
      let col : n % g.cols < g.cols = mod-lt n pc in
      let s = step_to i j (omega arith) (omega arith) (λ q. let u = q.0 in let v = q.1 in w.two (omega arith, omega arith)) in
      let p = position_at_step (3 * i + j) in
      let u = s.rows in
      let v = s.cols in
      let on : Stays g c p = record { low = omega arith; high = omega arith; left_most = omega arith; right_most = omega arith } in
      let r : c / g.cols + down p - 1 ≡ n / g.cols = omega arith in
      let k : c % g.cols + right p - 1 ≡ n % g.cols = omega arith in
      any_of 8 (λ q. eqb (neighbour g c q) n) p s.position
      (eq-eqb (neighbour g c p) n
      (neighbour_in g c p s.position on ∙ ap₂ (λ (x y : ℕ). x * g.cols + y) r k ∙ div-add-mod' n g.cols))

  pub beside_is : are_beside (c / g.cols) (c % g.cols) (n / g.cols) (n % g.cols) ≡ are_neighbours g c n
  beside_is =
      same_test (are_beside (c / g.cols) (c % g.cols) (n / g.cols) (n % g.cols)) (are_neighbours g c n)
      (λ t. beside_neighbours (yes_beside _ _ _ _ t)) neighbours_beside

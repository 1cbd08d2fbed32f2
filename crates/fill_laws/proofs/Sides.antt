-- Where no void is a gap, steps leave as they did before there were gaps; and with no side closed a sheet is document 01's: a step off the
-- sheet at a corner goes with a straight one, which comes first in the order.
use mathlib.Core.Path.{◌≡◌, sym, ◌∙◌, ap}
use mathlib.Core.Bool.{Bool, true, false, not, ◌&&◌, ◌||◌}
use mathlib.Core.Logic.{⊎_elim}
use mathlib.Core.List.{List}
use Prim.Native.Nat.{ℕ, ◌<◌}
use native.Mathlib.Decide.{ℕ_discrete, dec_lt}
use native.Mathlib.Omega.{arith}
use lib.Dec.{eqb}
use lib.ListN.{length, get_or}
use lib.IntN.{ℤ}
use borrow.Author.Tests.{eq-eqb, ne_eqb, eqb-true}
use Rattle.grid.specs.declared.Grid.{Grid}
use Rattle.grid.specs.Below.{any_below, first_below}
use Rattle.grid.specs.Sheet.{size, is_data, neighbour, code_at, SixteenBits}
use Rattle.grid.specs.Outlet.{is_open, is_outside, leaves_at, is_outlet, outlet_order, outlet_code}
use Rattle.grid.specs.Fill.{filled}
use Rattle.grid.specs.Readings.{outlet_by, outlet_code_by, ReadsBy}
use Rattle.grid.specs.Gaps.{NoGaps, void_leaves, WithoutGaps}
use Rattle.grid.specs.Sides.{base_leaves, OpenSides}
use Rattle.grid_laws.proofs.Tests.{true_false, or_left, or_right, or_cases, not_true_false, not_of_false, not_is_true, same_test}
use Rattle.grid_laws.proofs.Tests.{cond_true, cond_false}
use Rattle.grid_laws.proofs.Below.{any_of, some_of_any, any_ext, first_is, first_none, first_≤, first_found, first_before, first_ext}
use Rattle.grid_laws.proofs.Neighbours.{neighbour_on, stays_or_off}
use Rattle.grid_laws.proofs.Outlets.{leaves_off, leaves_on, order_small, off_straight, straight_open, void_of, void_no_data}
use Rattle.grid_laws.proofs.Outlets.{outside_void, void_outside, same_gaps}
use Rattle.fill_laws.proofs.Filled.{filled_data}
use Rattle.fill_laws.proofs.Left.{open_reach}
use Rattle.fill_laws.proofs.Readings.{reads_by}

-- two tests have one first place, if the one implies the other, and the other's first has the one too
first_same : (n : ℕ) (p q : ℕ → Bool) → ((k : ℕ) → p k ≡ true → q k ≡ true)
    → ((k : ℕ) → k < n → q k ≡ true → ((j : ℕ) → j < k → q j ≡ false) → p k ≡ true) → first_below n p ≡ first_below n q
first_same n p q to from = go (dec_lt (first_below n q) n)
  where
    none : (j : ℕ) → q j ≡ false → p j ≡ false
    none j f = not_true_false (p j) (λ t. true_false (to j t) f)

    go : Dec (first_below n q < n) → first_below n p ≡ first_below n q
    go (yes h) =
        first_is n p (first_below n q) h (from (first_below n q) h (first_found n q h) (first_before n q))
        (λ j k. none j (first_before n q j k))
    go (no f) =
        let e : first_below n q ≡ n = omega (arith, first_≤ n q) in
        first_none n p (λ j h. none j (first_before n q j (omega arith))) ∙ sym e

-- ---- sheets without gaps
module _ (g : Grid) (e : List ℤ) (none : NoGaps g e) where
  -- a void on the sheet is outside
  outside_is : (c : ℕ) → c < size g → is_outside g e c ≡ not (is_data e c)
  outside_is c h =
      same_test (is_outside g e c) (not (is_data e c)) (λ t. not_of_false (void_no_data g e c (outside_void g e c t)))
      (λ t. void_outside g e c (void_of g e c h (not_is_true (is_data e c) t)) (none c))

  same_step : (c p : ℕ) → p < 8 → leaves_at g e c p ≡ void_leaves g e c p
  unfolding void_leaves
  same_step c p h = ⊎_elim (λ s. on (neighbour_on g c p h s)) off (stays_or_off g c p h)
    where
      off : neighbour g c p ≡ size g → leaves_at g e c p ≡ void_leaves g e c p
      off q = leaves_off g e c p q ∙ sym (cond_true (is_open g p) _ (eq-eqb (neighbour g c p) (size g) q))

      on : neighbour g c p < size g → leaves_at g e c p ≡ void_leaves g e c p
      on k =
          let n : neighbour g c p ≡ size g → ⊥ = (λ q. let z : ⊥ = omega arith in absurd z) in
          leaves_on g e c p n ∙ outside_is (neighbour g c p) k ∙ sym (cond_false (is_open g p) _ (ne_eqb (neighbour g c p) (size g) n))

  void_outlet : (c : ℕ) → is_outlet g e c ≡ outlet_by g e (void_leaves g e) c
  unfolding is_outlet outlet_by
  void_outlet c = ap (λ (t : Bool). is_data e c && t) (any_ext 8 (leaves_at g e c) (void_leaves g e c) (same_step c))

  void_code : (c : ℕ) → outlet_code g e c ≡ outlet_code_by g e (void_leaves g e) c
  unfolding outlet_code outlet_code_by
  void_code c =
      ap (λ (i : ℕ). code_at (get_or outlet_order i 0))
      (first_ext 8 (λ i. leaves_at g e c (get_or outlet_order i 0)) (λ i. void_leaves g e c (get_or outlet_order i 0))
      (λ i h. same_step c (get_or outlet_order i 0) (order_small i h)))

  reads_void : ReadsBy g e (void_leaves g e)
  reads_void = reads_by g e (void_leaves g e) void_outlet void_code

-- the filled sheet has the input's gaps
filled_none : (g : Grid) (e : List ℤ) → NoGaps g e → length e ≡ size g → SixteenBits e → NoGaps g (filled g e)
filled_none g e none cells range c = same_gaps g (filled g e) e (filled_data g e cells range) c ∙ none c

pub without_gaps : WithoutGaps
without_gaps g e none = (reads_void g e none, λ cells range. reads_void g (filled g e) (filled_none g e none cells range))

-- ---- and with no side closed
module _ (g : Grid) (zero-sides : g.sides ≡ 0) (e : List ℤ) (none : NoGaps g e) (c : ℕ) where
  leaves_base : (p : ℕ) → leaves_at g e c p ≡ true → base_leaves g e c p ≡ true
  unfolding base_leaves
  leaves_base p t = go (ℕ_discrete (neighbour g c p) (size g))
    where
      go : Dec (neighbour g c p ≡ size g) → (eqb (neighbour g c p) (size g) || not (is_data e (neighbour g c p))) ≡ true
      go (yes q) = or_left _ (eq-eqb (neighbour g c p) (size g) q)
      go (no f) =
          or_right (eqb (neighbour g c p) (size g))
          (not_of_false (void_no_data g e (neighbour g c p) (outside_void g e (neighbour g c p) (sym (leaves_on g e c p f) ∙ t))))

  off_base : (p : ℕ) → neighbour g c p ≡ size g → base_leaves g e c p ≡ true
  unfolding base_leaves
  off_base p q = or_left _ (eq-eqb (neighbour g c p) (size g) q)

  on_base : (p : ℕ) → p < 8 → (neighbour g c p ≡ size g → ⊥) → base_leaves g e c p ≡ true → leaves_at g e c p ≡ true
  unfolding base_leaves
  on_base p h f t =
      leaves_on g e c p f
      ∙ outside_is g e none (neighbour g c p) (⊎_elim (neighbour_on g c p h) (λ q. absurd (f q)) (stays_or_off g c p h))
      ∙ ⊎_elim (λ q. absurd (f (eqb-true (neighbour g c p) (size g) q))) (λ q. q) (or_cases (eqb (neighbour g c p) (size g)) _ t)

  -- a straight step off the sheet leaves
  straight_leaves : (i : ℕ) → i < 4 → neighbour g c (get_or outlet_order i 0) ≡ size g → leaves_at g e c (get_or outlet_order i 0) ≡ true
  straight_leaves i h q = leaves_off g e c (get_or outlet_order i 0) q ∙ straight_open g zero-sides i h

  some_leaves : (p : ℕ) → p < 8 → base_leaves g e c p ≡ true → (q : ℕ) × (q < 8) × (leaves_at g e c q ≡ true)
  some_leaves p h t = go (ℕ_discrete (neighbour g c p) (size g))
    where
      go : Dec (neighbour g c p ≡ size g) → (q : ℕ) × (q < 8) × (leaves_at g e c q ≡ true)
      go (yes q) =
          let w = off_straight g c p h q in
          let k = w.1 in
          (get_or outlet_order w.0 0, order_small w.0 (omega arith), straight_leaves w.0 w.1 w.2)
      go (no f) = (p, h, on_base p h f t)

  base_outlet : is_outlet g e c ≡ outlet_by g e (base_leaves g e) c
  unfolding is_outlet outlet_by
  base_outlet =
      ap (λ (t : Bool). is_data e c && t)
      (same_test (any_below 8 (leaves_at g e c)) (any_below 8 (base_leaves g e c))
      (λ t. let w = some_of_any 8 (leaves_at g e c) t in any_of 8 (base_leaves g e c) w.0 w.1 (leaves_base w.0 w.2))
      (λ t. let w = some_of_any 8 (base_leaves g e c) t in
      let v = some_leaves w.0 w.1 w.2 in
      any_of 8 (leaves_at g e c) v.0 v.1 v.2))

  base_outlet_code : outlet_code g e c ≡ outlet_code_by g e (base_leaves g e) c
  unfolding outlet_code outlet_code_by
  base_outlet_code =
      ap (λ (i : ℕ). code_at (get_or outlet_order i 0))
      (first_same 8 (λ i. leaves_at g e c (get_or outlet_order i 0)) (λ i. base_leaves g e c (get_or outlet_order i 0))
      (λ i. leaves_base (get_or outlet_order i 0)) first)
    where
      first : (k : ℕ) → k < 8 → base_leaves g e c (get_or outlet_order k 0) ≡ true →
          ((j : ℕ) → j < k → base_leaves g e c (get_or outlet_order j 0) ≡ false) → leaves_at g e c (get_or outlet_order k 0) ≡ true
      first k h t before = go (ℕ_discrete (neighbour g c (get_or outlet_order k 0)) (size g)) (dec_lt k 4)
        where
          go : Dec (neighbour g c (get_or outlet_order k 0) ≡ size g) → Dec (k < 4) → leaves_at g e c (get_or outlet_order k 0) ≡ true
          go (no f) _ = on_base (get_or outlet_order k 0) (order_small k h) f t
          go (yes q) (yes l) = straight_leaves k l q
          go (yes q) (no l) =
              let w = off_straight g c (get_or outlet_order k 0) (order_small k h) q in
              let i = w.1 in
              true_false (off_base (get_or outlet_order w.0 0) w.2) (before w.0 (omega arith))

reads_base : (g : Grid) → g.sides ≡ 0 → (e : List ℤ) → NoGaps g e → ReadsBy g e (base_leaves g e)
reads_base g z e none = reads_by g e (base_leaves g e) (base_outlet g z e none) (base_outlet_code g z e none)

pub open_sides : OpenSides
open_sides g e z none = (
  reads_base g z e none,
  λ cells range. reads_base g z (filled g e) (filled_none g e none cells range),
  open_reach g z e none,
)

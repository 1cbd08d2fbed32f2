-- "All cells of a pond share one filled elevation": a wet cell is no higher than any data neighbour, so two wet neighbours are level. And
-- the cells of one number are those of one pond.
use mathlib.Core.Path.{◌≡◌, sym, ◌∙◌, ap, subst}
use mathlib.Core.Bool.{true}
use mathlib.Core.Logic.{⊎_elim}
use mathlib.Core.List.{List}
use Prim.Native.Nat.{ℕ, ◌+◌, ◌≤◌, ◌<◌}
use native.Mathlib.Omega.{arith}
use lib.Dec.{eqb}
use lib.ListN.{length, get_or}
use lib.IntN.{ℤ}
use lib.Signed.{lt_z, ◌≤ℤ◌, ◌<ℤ◌, lt_z_yes, clash_ℤ}
use borrow.Author.Tests.{eqb-true}
use Rattle.grid.specs.declared.Grid.{Grid}
use Rattle.grid.specs.Below.{count_below}
use Rattle.grid.specs.Sheet.{size, at, higher, is_data, Touch, SixteenBits}
use Rattle.grid.specs.Fill.{filled}
use Rattle.grid.specs.Ponds.{is_wet, pond_of, lowest_cell, is_lowest, ponds, pond_count}
use Rattle.grid_laws.proofs.Tests.{test, true_T, true_false, not_false_true, and_right}
use Rattle.grid_laws.proofs.Below.{count_past, count_apart, count_find}
use Rattle.grid_laws.proofs.Order.{≤ℤ-trans, ≤ℤ-antisym, ≤ℤ-of-eq, higher_cases}
use Rattle.grid_laws.proofs.Cells.{on_sheet}
use Rattle.grid_laws.proofs.Neighbours.{touch_back}
use Rattle.fill_laws.specs.Certificate.{DataNeighbours}
use Rattle.fill_laws.proofs.Passes.{filling}
use Rattle.fill_laws.proofs.Filled.{one_pass_more}
use Rattle.join_laws.specs.Ways.{stop, step, Joins}
use Rattle.join_laws.proofs.Joined.{joined_way}
use Rattle.pond_laws.proofs.Same.{InPond, wet_data, wet_on, lowest_on, lowest_in, lowest_is, is_lowest_lem, dry_not_lowest}
use Rattle.pond_laws.proofs.Same.{pond_back, pond_on, pond_wet, lowest_same}
use Rattle.pond_laws.proofs.Numbered.{number_dry, number_wet}

module _ (g : Grid) (e : List ℤ) (long : length e ≡ size g) (range : SixteenBits e) where
  abbrev f : List ℤ
  f = filled g e

  -- ---- one level
  filled_≤_neighbour : (c n : ℕ) → DataNeighbours g e c n → at f c ≤ℤ higher (at e c) (at f n)
  unfolding filled
  filled_≤_neighbour c n b =
      ≤ℤ-trans (≤ℤ-of-eq (ap (λ (l : List ℤ). at l c) (sym (one_pass_more g e long range))))
      ((filling g e long range).by_next (size g) c n b)

  wet_low : (c : ℕ) → is_wet e f c ≡ true → at e c <ℤ at f c
  unfolding is_wet
  wet_low c t = lt_z_yes (true_T (and_right (is_data e c) (lt_z (at e c) (at f c)) t))

  wet_≤ : (c n : ℕ) → is_wet e f c ≡ true → DataNeighbours g e c n → at f c ≤ℤ at f n
  wet_≤ c n t b =
      ⊎_elim (λ w. ≤ℤ-trans (filled_≤_neighbour c n b) (≤ℤ-of-eq w.1))
      (λ w. clash_ℤ (wet_low c t) (≤ℤ-trans (filled_≤_neighbour c n b) (≤ℤ-of-eq w.1))) (higher_cases (at e c) (at f n))

  wet_level : (c n : ℕ) → is_wet e f c ≡ true → is_wet e f n ≡ true → Touch g c n → at f c ≡ at f n
  wet_level c n t u b =
      let x = wet_data e f c t in
      let y = wet_data e f n u in
      ≤ℤ-antisym (wet_≤ c n t (true_T x, true_T y, b))
      (wet_≤ n c u (true_T y, true_T x, touch_back g c n (on_sheet g e long c x) (on_sheet g e long n y) b))

  along : (d : ℕ) {c : ℕ} → Joins g (is_wet e f) (eqb d) c → at f c ≡ at f d
  along d (stop {c = c} o) = ap (at f) (sym (eqb-true d c o.1))
  along d (step {c = c} {n = n} b w) = wet_level c n b.0 b.1 b.2 ∙ along d w

  pub pond_level : (d c : ℕ) → InPond g e (filled g e) d c → at (filled g e) c ≡ at (filled g e) d
  unfolding pond_of
  pond_level d c t = along d (joined_way g (is_wet e f) (eqb d) (wet_on g e f long) c t)

  -- ---- the cells of a number
  pub numbered_wet : (c k : ℕ) → get_or (ponds g e) c 0 ≡ k + 1 → is_wet e (filled g e) c ≡ true
  numbered_wet c k q = not_false_true (is_wet e f c) (λ n. let z = number_dry g e c n in omega arith)

  numbered_count : (c k : ℕ) → get_or (ponds g e) c 0 ≡ k + 1 → count_below (lowest_cell g e f c) (is_lowest g e f) ≡ k
  numbered_count c k q = let a = number_wet g e long c (numbered_wet c k q) in omega arith

  -- cells of one number are in one pond
  pub same_pond : (c d k : ℕ) → get_or (ponds g e) c 0 ≡ k + 1 → get_or (ponds g e) d 0 ≡ k + 1 → InPond g e (filled g e) d c
  same_pond c d k q r =
      let t = numbered_wet c k q in
      let u = numbered_wet d k r in
      let s = count_apart (lowest_cell g e f c) (lowest_cell g e f d) (is_lowest g e f) (lowest_is g e f long c t) (lowest_is g e f long d u)
      (numbered_count c k q ∙ sym (numbered_count d k r)) in
      pond_on g e f long d (lowest_cell g e f d) c (lowest_in g e f long d u)
      (subst (λ (x : ℕ). InPond g e f x c) s (pond_back g e f long c (lowest_cell g e f c) (lowest_in g e f long c t)))

  pub same_number : (c d k : ℕ) → get_or (ponds g e) c 0 ≡ k + 1 → get_or (ponds g e) d 0 ≡ k + 1 → at (filled g e) c ≡ at (filled g e) d
  same_number c d k q r = pond_level d c (same_pond c d k q r)

  -- and the cells of one pond have one number
  pub one_number : (c d : ℕ) → InPond g e (filled g e) d c → get_or (ponds g e) c 0 ≡ get_or (ponds g e) d 0
  one_number c d p =
      number_wet g e long c (pond_wet g e f long d c p)
      ∙ ap (λ (x : ℕ). count_below x (is_lowest g e f) + 1) (sym (lowest_same g e f long d c p))
      ∙ sym (number_wet g e long d (pond_wet g e f long c d (pond_back g e f long d c p)))

  -- the lowest cell of the pond
  pub some_cell : (k : ℕ) → k < pond_count g e → (c : ℕ) × (c < size g) × (get_or (ponds g e) c 0 ≡ k + 1)
  unfolding pond_count
  some_cell k h =
      let w = count_find (size g) (is_lowest g e f) k h in
      let t = not_false_true (is_wet e f w.0) (λ n. true_false w.2 (dry_not_lowest g e f long w.0 w.1 n)) in (
        w.0,
        w.1,
        number_wet g e long w.0 t
            ∙ ap (λ (x : ℕ). count_below x (is_lowest g e f) + 1) (is_lowest_lem g e f long w.0 w.2)
            ∙ ap (λ (x : ℕ). x + 1) w.3,
      )

  pub number_≤ : (c : ℕ) → get_or (ponds g e) c 0 ≤ pond_count g e
  unfolding pond_count
  number_≤ c =
      ⊎_elim
      (λ t. let a = number_wet g e long c t in
      let b = count_past (lowest_cell g e f c) (size g) (is_lowest g e f) (lowest_on g e f long c t) (lowest_is g e f long c t) in
      omega arith)
      (λ t. let a = number_dry g e c t in omega arith)
      (test (is_wet e f c))

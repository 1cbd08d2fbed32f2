-- "The volumes add up to the sum of the differences over the whole sheet": the sum over the ponds and the sum over the cells change
-- places; a wet cell is in the volume of one pond, and a dry one has no depth.
use mathlib.Core.Path.{◌≡◌, refl, sym, ◌∙◌}
use mathlib.Core.Bool.{true, false, cond}
use mathlib.Core.Logic.{◌⊎◌, inl, inr}
use mathlib.Core.List.{List}
use Prim.Native.Nat.{ℕ, ◌+◌, ◌-◌, ◌^◌, ◌≤◌, ◌<◌}
use native.Mathlib.Omega.{arith}
use lib.Dec.{eqb}
use lib.ListN.{length, get_or}
use lib.IntN.{ℤ}
use borrow.Author.Tests.{eq-eqb, ne_eqb}
use Rattle.grid.specs.declared.Grid.{Grid}
use Rattle.grid.specs.Below.{sum_below}
use Rattle.grid.specs.Sheet.{size, SixteenBits}
use Rattle.grid.specs.Fill.{filled}
use Rattle.grid.specs.Ponds.{is_wet, ponds, pond_count, depth, pond_volume}
use Rattle.grid_laws.proofs.Tests.{test, cond_true, cond_false}
use Rattle.grid_laws.proofs.Below.{sum_ext, sum_zero, sum_change, sum_swap, sum_bound}
use Rattle.pond_laws.proofs.Numbered.{number_dry, number_wet}
use Rattle.pond_laws.proofs.Depth.{depth_small, dry_depth}
use Rattle.pond_laws.proofs.Level.{number_≤}

module _ (g : Grid) (e : List ℤ) (long : length e ≡ size g) (range : SixteenBits e) where
  abbrev f : List ℤ
  f = filled g e

  -- what the cell c adds to the volume of the pond k + 1
  abbrev part : ℕ → ℕ → ℕ
  part k c = cond (eqb (get_or (ponds g e) c 0) (k + 1)) (depth e f c) 0

  none : (k c : ℕ) → (get_or (ponds g e) c 0 ≡ k + 1 → ⊥) → part k c ≡ 0
  none k c n = cond_false (depth e f c) 0 (ne_eqb (get_or (ponds g e) c 0) (k + 1) n)

  parts : (c : ℕ) → (is_wet e f c ≡ true) ⊎ (is_wet e f c ≡ false) → sum_below (pond_count g e) (λ k. part k c) ≡ depth e f c
  parts c (inl t) =
      let m : ℕ = get_or (ponds g e) c 0 - 1 in
      let q = number_wet g e long c t in
      let h = number_≤ g e long range c in
      let s : get_or (ponds g e) c 0 ≡ m + 1 = omega arith in
      let a = sum_change (pond_count g e) (λ k. 0) (λ k. part k c) m (omega arith) (λ k n. none k c (λ r. n (omega arith))) in
      let z = sum_zero (pond_count g e) (λ k. 0) (λ k l. refl) in
      let d : part m c ≡ depth e f c = cond_true (depth e f c) 0 (eq-eqb (get_or (ponds g e) c 0) (m + 1) s) in
      omega arith
  parts c (inr t) =
      sum_zero (pond_count g e) (λ k. part k c) (λ k h. none k c (λ q. let z = number_dry g e c t in omega arith))
      ∙ sym (dry_depth g e long range c t)

  pub total : sum_below (pond_count g e) (λ k. pond_volume g e (filled g e) (ponds g e) k) ≡ sum_below (size g) (depth e (filled g e))
  unfolding pond_volume
  total =
      sum_swap (pond_count g e) (size g) part
      ∙ sum_ext (size g) (λ c. sum_below (pond_count g e) (λ k. part k c)) (depth e f) (λ c h. parts c (test (is_wet e f c)))

  pub no_wrap : size g ≤ 16000000 → sum_below (size g) (depth e (filled g e)) < 2 ^ 40
  no_wrap h =
      let a = sum_bound (size g) 65535 (depth e f) (λ c l. let d = depth_small g e long range c in omega arith) in omega arith

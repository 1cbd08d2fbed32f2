-- The promise of the call is what `checks` has for a call from codes to one list, with the counts for the list, and the front of the work
-- buffer as it was lent.
use mathlib.Core.Path.{◌≡◌, sym, ◌∙◌, ap}
use mathlib.Core.List.{List}
use Prim.Native.Nat.{ℕ, ◌-◌, ◌*◌, ◌/◌, ◌≤◌}
use native.Mathlib.Omega.{arith}
use lib.ListN.{length, take}
use lib.Seq.{take-take}
use borrow.Rule.Slice.PartMut.{put_mid, take_put}
use Rattle.grid.specs.declared.Grid.{Grid}
use Rattle.grid.specs.declared.Answer.{Answer}
use Rattle.grid.specs.Sheet.{size}
use Rattle.grid.specs.Routes.{counts}
use Rattle.grid.specs.Promises.{CountsPromise}
use Rattle.checks.proofs.FromCodes.{FromCodes}

pub promise : {g : Grid} {codes k₀ k₁ w₀ w₁ : List ℕ} {r : Answer} → FromCodes g codes (counts g codes) k₀ k₁ w₀ w₁ r →
    take (2 * size g) w₁ ≡ take (2 * size g) w₀ → CountsPromise g codes k₀ k₁ w₀ w₁ r
promise f h = record { answer = f.answer; result = f.result; work = f.work; first_half = h }

-- the work buffer w when its second half has been lent on and has come back as t
abbrev pub given_back : List ℕ → List ℕ → List ℕ
given_back w t = put_mid (length w / 2) (length w - length w / 2) w t

-- where k places from `half` on have been lent on, the first m are as they were
front_kept : (m half k : ℕ) (w t : List ℕ) → m ≤ half → half ≤ length w → take m (put_mid half k w t) ≡ take m w
front_kept m half k w t h l =
    sym (take-take m half (put_mid half k w t) h) ∙ ap (take m) (take_put half k w t l) ∙ take-take m half w h

pub first_half_kept : (g : Grid) (w t : List ℕ) → 4 * size g ≤ length w → take (2 * size g) (given_back w t) ≡ take (2 * size g) w
first_half_kept g w t h = front_kept (2 * size g) (length w / 2) (length w - length w / 2) w t (omega arith) (omega arith)

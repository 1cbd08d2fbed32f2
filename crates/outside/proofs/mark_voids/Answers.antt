use mathlib.Core.Path.{◌≡◌, ◌∙◌}
use mathlib.Core.Bool.{cond}
use Prim.Native.Nat.{◌+◌, ◌<◌}
use native.Mathlib.Omega.{arith}
use lib.ListN.{length, get_or, set}
use lib.Seq.{get_or-set_same, get_or-set_other}
use borrow.Author.Count.{below_more}
use Rattle.grid.specs.Sheet.{is_data}
use Rattle.outside.proofs.Seeds.{void_mark_is}
use Rattle.outside.proofs.mark_voids.Goals as goal

pub loop-cell-preserved : goal.loop-cell-preserved
loop-cell-preserved c =
    let a = c.args in
    let e = a.elevations.now in
    let i = c.loop-cell.cell in
    let w = c.loop-cell.work in
    let v = c.void_mark.result in
    let within : a.base + i < length w = omega arith in
    let value : v ≡ cond (is_data e i) 0 1 =
    void_mark_is e i c.short_key_at.result v c.short_key_at.ensures.value c.short_key_at.ensures.void_bound c.void_mark.ensures.0 c.void_mark.ensures.1 in (
      below_more (λ j. get_or (set w (a.base + i) v) (a.base + j) 0 ≡ cond (is_data e j) 0 1) i
          (λ j m. get_or-set_other w (a.base + i) (a.base + j) v 0 (λ r. omega arith) ∙ c.loop-cell.invariant.0 j m)
          (get_or-set_same w (a.base + i) v 0 within ∙ value),
      λ j m. get_or-set_other w (a.base + i) j v 0 (λ r. omega arith) ∙ c.loop-cell.invariant.1 j m,
    )

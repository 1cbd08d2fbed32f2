-- The eight steps one after the other, as far as p.
use mathlib.Core.Path.{refl, ◌∙◌}
use Rattle.grid.specs.Below.{any_below}
use Rattle.levels.specs.Beside.{zero_beside}
use Rattle.levels.proofs.Keyed.{zero_off, zero_here, any_more, any_same}
use Rattle.levels.proofs.has_zero.Goals.{in-Some, in_default}
use Rattle.levels.proofs.has_zero.Goals as goal

pub loop-p-init : goal.loop-p-init
unfolding any_below
loop-p-init g c = refl

pub loop-p-preserved : goal.loop-p-preserved
loop-p-preserved g c =
    let a = c.args in
    let e = a.t.now.elevations.now in
    let len = c.args.t.now.elevations_len in
    let own = c.short_key_at-k.ensures in
    let p = c.loop-p.p in
    let test = zero_beside a.t.now.raster.grid e a.work.now a.cell in
    elim c.match-near.branch [
      | in-Some w ↦
          w.found-is
          ∙ any_more p test c.loop-p.invariant
          (zero_here a.t.now.raster.grid e len a.work.now a.cell p c.requires.data _ own.value own.void_bound _ w.in-Some.ensures.0 w.is_zero_at-found.ensures)
      | in_default w ↦ w.found-is ∙ any_same p test c.loop-p.invariant (zero_off a.t.now.raster.grid e len a.work.now a.cell p w.in_default.ensures)
    ]

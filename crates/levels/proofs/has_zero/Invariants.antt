-- The eight steps one after the other, as far as p.
use mathlib.Core.Path.{◌≡◌}
use Rattle.grid.specs.Below.{any_below}
use Rattle.levels.specs.Beside.{zero_beside}
use Rattle.levels.proofs.has_zero.Given as goal

abbrev pub invariant-loop-p : goal.invariant-loop-p
invariant-loop-p g l = l.found ≡ any_below l.p (zero_beside l.t.raster.grid l.t.elevations.now l.work l.cell)

use Rattle.slopes.specs.Steepest.{SumsTo}
use Rattle.slopes.proofs.sums.Given as goal

abbrev pub invariant-loop-cell : goal.invariant-loop-cell
invariant-loop-cell g l = SumsTo l.t.raster.grid l.t.elevations.now l.from l.cell l.initial.work l.work

use Rattle.flow.proofs.Flats.{Summed}
use Rattle.flow.proofs.flat_sum.Given as goal

abbrev pub invariant-loop-p : goal.invariant-loop-p
invariant-loop-p g l = Summed l.t.raster.grid l.t.elevations.now l.work l.cell l.p l.sum

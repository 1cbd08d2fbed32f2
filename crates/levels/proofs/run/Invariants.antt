use Rattle.flow_laws.specs.Words.{Joining}
use Rattle.levels.proofs.run.Given as goal

abbrev pub invariant-loop-cell : goal.invariant-loop-cell
invariant-loop-cell g l = Joining l.t.raster.grid l.t.elevations.now l.half l.work l.cell l.tail

use Rattle.flow.specs.Coding.{CodesTo}
use Rattle.flow.proofs.Codes.run.Given as goal

abbrev pub invariant-loop-cell : goal.invariant-loop-cell
invariant-loop-cell g l = CodesTo l.t.raster.grid l.t.elevations.now l.work l.cell l.codes

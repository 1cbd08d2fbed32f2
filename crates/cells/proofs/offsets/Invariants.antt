-- Position by position, as the table of steps has them.
use Rattle.cells.proofs.Steps.{OffsetsTo}
use Rattle.cells.proofs.offsets.Given as goal

abbrev pub invariant-loop-p : goal.invariant-loop-p
invariant-loop-p l = OffsetsTo l.cols l.found l.p

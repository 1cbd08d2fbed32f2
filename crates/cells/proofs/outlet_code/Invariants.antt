use Rattle.cells.proofs.Codes.{StaysTo}
use Rattle.cells.proofs.outlet_code.Given as goal

abbrev pub invariant-loop-i : goal.invariant-loop-i
invariant-loop-i l = StaysTo l.g l.elevations l.cell l.i

-- The first i elevations are loaded.
use Rattle.fill.proofs.Loops.{LoadTo}
use Rattle.fill.proofs.load.Given as goal

abbrev pub invariant-loop-i : goal.invariant-loop-i
invariant-loop-i l = LoadTo l.elevations l.work l.i

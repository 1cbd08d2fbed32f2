-- Every cell below i is settled, and a walk keeps it so.
use Rattle.accumulation.proofs.Walk.{Scanning}
use Rattle.accumulation.proofs.scan.Given as goal

abbrev pub invariant-loop-i : goal.invariant-loop-i
invariant-loop-i l = Scanning l.n l.initial.tail l.tail l.left l.i

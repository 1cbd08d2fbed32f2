use Rattle.fill.proofs.Loops.{ReachedTo}
use Rattle.fill.proofs.first_unreached.Given as goal

abbrev pub invariant-loop-c : goal.invariant-loop-c
invariant-loop-c l = ReachedTo l.work l.c

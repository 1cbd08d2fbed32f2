-- The cells below c are numbered, and `found` of them are starts; that is at most c, so the sum fits.
use Rattle.starting.specs.Marked.{NumberedTo}
use Rattle.starting.proofs.number_starts.Given as goal

abbrev pub invariant-loop-c : goal.invariant-loop-c
invariant-loop-c l = NumberedTo l.n l.c l.tail l.counts l.threshold l.found l.initial.starts l.starts

-- The first c cells are marked.
use Rattle.pond_numbers.proofs.Numbering.{MarkedTo}
use Rattle.pond_numbers.proofs.mark_wet.Given as goal

abbrev pub invariant-loop-c : goal.invariant-loop-c
invariant-loop-c l = MarkedTo l.n l.initial.work l.work l.c

-- The ponds are numbered whose lowest cell is one of the first c.
use Rattle.pond_numbers.specs.State.{Numbered}
use Rattle.pond_numbers.proofs.number.Given as goal

abbrev pub invariant-loop-c : goal.invariant-loop-c
invariant-loop-c l = Numbered l.g l.elevations l.work l.c l.count

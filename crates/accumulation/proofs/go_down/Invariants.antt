-- The invariant is `Going`: the pass, with one cell in hand that awaits nothing. Each turn leaves one cell less, which is the measure.
use Rattle.accumulation.specs.Tail.{Going}
use Rattle.accumulation.proofs.go_down.Given as goal

abbrev pub invariant-loop-c : goal.invariant-loop-c
invariant-loop-c l = Going l.n l.start l.initial.tail l.tail l.c l.left

abbrev pub decreases-loop-c : goal.decreases-loop-c
decreases-loop-c l = l.left

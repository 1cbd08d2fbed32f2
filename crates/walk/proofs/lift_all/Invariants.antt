-- What stands is right at each cell, whichever were lifted.
use Rattle.route_laws.specs.Walking.{WalkedTo}
use Rattle.walk.proofs.lift_all.Given as goal

abbrev pub invariant-loop-cell : goal.invariant-loop-cell
invariant-loop-cell l = WalkedTo l.n 0 l.initial.tail l.tail

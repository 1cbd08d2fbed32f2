-- Position by position: the codes are eight different places.
use Rattle.receivers.proofs.Codes.{ReachTo}
use Rattle.receivers.proofs.reach_table.Given as goal

abbrev pub invariant-loop-p : goal.invariant-loop-p
invariant-loop-p l = ReachTo l.offsets l.table l.p

-- `lists::first_stray`: a walk along the list, with row and column of the cell before.
use Rattle.lists.proofs.Stray.{WalkedTo}
use Rattle.lists.proofs.first_stray.Given as goal

abbrev pub invariant-loop-i : goal.invariant-loop-i
invariant-loop-i l = WalkedTo l.g l.list l.i l.row l.col

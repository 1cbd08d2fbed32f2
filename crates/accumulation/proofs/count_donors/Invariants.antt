-- The donors among the cells below d are counted; at most eight each, so a word has room.
use Rattle.accumulation.proofs.Stores.{DonorsFrom}
use Rattle.accumulation.proofs.count_donors.Given as goal

abbrev pub invariant-loop-d : goal.invariant-loop-d
invariant-loop-d l = DonorsFrom l.n l.initial.tail l.tail l.d

-- `ending::shared_length`: the walk back from both ends; the last k cells are alike.
use Rattle.ending_laws.proofs.Longest.{AlikeTo}
use Rattle.ending.proofs.shared_length.Given as goal

abbrev pub invariant-loop-k : goal.invariant-loop-k
invariant-loop-k l = AlikeTo l.first l.second l.k

-- The largest number where the sum does not fit, else the sum.
use Rattle.grid.specs.Crews.{capped_sum}
use borrow.Author.Rules.{rules}
use Rattle.sums.proofs.capped.Goals as goal

pub returns-then-b-a : goal.returns-then-b-a
unfolding capped_sum
returns-then-b-a c = search rules

pub returns : goal.returns
unfolding capped_sum
returns c = search rules

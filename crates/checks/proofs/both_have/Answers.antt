use borrow.Author.Tests.{eq-eqb, ne_eqb}
use Rattle.grid.specs.Checks.{all_have}
use Rattle.checks.proofs.Asked.{and_all}
use Rattle.checks.proofs.both_have.Goals as goal

pub returns-then-a-n : goal.returns-then-a-n
unfolding all_have
returns-then-a-n c = simp (eq-eqb _ _ c.if-a-n.true, and_all)

pub returns-else-a-n : goal.returns-else-a-n
unfolding all_have
returns-else-a-n c = simp (ne_eqb _ _ c.if-a-n.false)

use mathlib.Core.Path.{sym, ◌∙◌}
use Rattle.grid.specs.Checks.{all_have}
use Rattle.checks.proofs.Asked.{all_both, all_not_both}
use Rattle.checks.proofs.all_have.Goals as goal

pub returns-then-both_have : goal.returns-then-both_have
returns-then-both_have c = c.both_have-then-both_have.ensures ∙ all_both _ _ _ _ (sym c.both_have.ensures ∙ c.if-both_have.true)

pub returns-else-both_have : goal.returns-else-both_have
returns-else-both_have c = c.both_have.ensures ∙ all_not_both _ _ _ _ (sym c.both_have.ensures ∙ c.if-both_have.false)

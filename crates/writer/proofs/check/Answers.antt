-- `writer::check`: 4, and what is asked after it.
use Rattle.checks.proofs.Asked.{says_no, says_yes}
use Rattle.writer.proofs.Promise.{too_many, few_enough}
use Rattle.std.proofs.lemmas.Bool.{not_from_false, not_from_true}
use Rattle.writer.proofs.check.Goals as goal

pub returns-then-not-few_cells : goal.returns-then-not-few_cells
returns-then-not-few_cells c =
    rw c.into.ensures (too_many _ _ _ (says_no c.few_cells.ensures (not_from_false _ c.if-not-few_cells.true)))

pub returns : goal.returns
returns c =
    few_enough _ _ _ (says_yes c.few_cells.ensures (not_from_true _ c.if-not-few_cells.false)) c.check_sizes.ensures

-- 5, 6 and 17, and then 7 and 8 as for any sheets.
use Rattle.std.proofs.lemmas.Result.{err_from_is_err_and}
use Rattle.refusals.proofs.Answers.{is_no}
use mathlib.Core.Path.{refl, ◌∙◌}
use Rattle.checks.proofs.Gate.{passed, answered_no, answered_yes}
use Rattle.checks.proofs.Asked.{size_and_sides_gate, size_passes, sides_asked, lengths_asked, four_results}
use Rattle.checks.proofs.outlets.Goals as goal

pub returns-in_err-rows_cols_and_sides : goal.returns-in_err-rows_cols_and_sides
returns-in_err-rows_cols_and_sides c =
    let p = err_from_is_err_and c.from_residual.result c.from_residual.ensures.1 in
    rw (p.1, p.2) (answered_no (size_and_sides_gate _) c.in_err-rows_cols_and_sides.ensures (is_no c.in_err-rows_cols_and_sides.field-0.0) _ ∙ sides_asked _ _ _ _)

pub returns : goal.returns
returns c =
    let k = c.in_ok-rows_cols_and_sides.ensures in
    c.sheets.ensures ∙ four_results _ _ _ _ _ _ _ ∙ lengths_asked _ _ _ _
    ∙ size_passes _ (passed (size_and_sides_gate _) k refl).fact _
    ∙ answered_yes (size_and_sides_gate _) k refl _
    ∙ sides_asked _ _ _ _

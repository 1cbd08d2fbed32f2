-- 5, 6, 17 and 20, and then 7 to 9 as for any sheets.
use Rattle.std.proofs.lemmas.Result.{err_from_is_err_and}
use Rattle.refusals.proofs.Answers.{is_no}
use mathlib.Core.Path.{refl, ◌∙◌}
use Rattle.checks.proofs.Gate.{passed, answered_no, answered_yes}
use Rattle.checks.proofs.Asked.{description_gate, size_passes, flow_asked, lengths_asked, four_results}
use Rattle.checks.proofs.check_flow.Goals as goal

pub returns-in_err-description : goal.returns-in_err-description
returns-in_err-description c =
    let p = err_from_is_err_and c.from_residual.result c.from_residual.ensures.1 in
    rw (p.1, p.2) (answered_no (description_gate _) c.in_err-description.ensures (is_no c.in_err-description.field-0.0) _ ∙ flow_asked _ _ _ _)

pub returns : goal.returns
returns c =
    let k = c.in_ok-description.ensures in
    c.check.ensures ∙ four_results _ _ _ _ _ _ _ ∙ lengths_asked _ _ _ _
    ∙ size_passes _ (passed (description_gate _) k refl).fact.0 _
    ∙ answered_yes (description_gate _) k refl _
    ∙ flow_asked _ _ _ _

-- 5 to 7, and then 8.
use Rattle.std.proofs.lemmas.Result.{err_from_is_err_and}
use Rattle.refusals.proofs.Answers.{is_no}
use mathlib.Core.Path.{refl}
use mathlib.Core.List.{[]}
use mathlib.Core.Path.{◌∙◌}
use native.Mathlib.Omega.{arith}
use Rattle.grid.specs.Checks.{accepted, refusal}
use Rattle.checks.proofs.Gate.{passed, answered_no, is_accepted_lem, next_no, next_yes}
use Rattle.checks.proofs.Asked.{says_no, says_yes, sheets_gate, results_asked}
use Rattle.std.proofs.lemmas.Bool.{not_from_false, not_from_true}
use Rattle.checks.proofs.sheets.Goals as goal

pub returns-in_err-inputs : goal.returns-in_err-inputs
returns-in_err-inputs c =
    let p = err_from_is_err_and c.from_residual.result c.from_residual.ensures.1 in
    rw (p.1, p.2) (answered_no (sheets_gate _ _ []) c.in_err-inputs.ensures (is_no c.in_err-inputs.field-0.0) _ ∙ results_asked _ _ _ _)

pub overflow_mul-g : goal.overflow_mul-g
overflow_mul-g c =
    let f = (passed (sheets_gate _ _ []) c.in_ok-inputs.ensures refl).fact in
    let l = f.fits.cells in
    record { fits = omega arith }

pub returns-then-not-all_have : goal.returns-then-not-all_have
returns-then-not-all_have c =
    rw c.into.ensures (next_no (sheets_gate _ _ []) c.in_ok-inputs.ensures refl (refusal 8 0) accepted
    (says_no c.all_have.ensures (not_from_false _ c.if-not-all_have.true)) ∙ results_asked _ _ _ _)

pub returns : goal.returns
returns c =
    let k = c.in_ok-inputs.ensures in
    is_accepted_lem (sheets_gate _ _ []) k refl
    ∙ next_yes (sheets_gate _ _ []) k refl (refusal 8 0) accepted (says_yes c.all_have.ensures (not_from_true _ c.if-not-all_have.false))
    ∙ results_asked _ _ _ _

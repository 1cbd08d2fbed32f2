-- 5 and 6, and then 7.
use Rattle.std.proofs.lemmas.Result.{err_from_is_err_and}
use Rattle.refusals.proofs.Answers.{is_no}
use mathlib.Core.Path.{refl, ◌∙◌}
use native.Mathlib.Omega.{arith}
use Rattle.grid.specs.Checks.{accepted, refusal}
use Rattle.checks.proofs.Gate.{passed, answered_no, is_accepted_lem, next_no, next_yes}
use Rattle.checks.proofs.Asked.{says_no, says_yes, size_gate, inputs_asked}
use Rattle.std.proofs.lemmas.Bool.{not_from_false, not_from_true}
use Rattle.checks.proofs.inputs.Goals as goal

pub returns-in_err-rows_and_cols : goal.returns-in_err-rows_and_cols
returns-in_err-rows_and_cols c =
    let p = err_from_is_err_and c.from_residual.result c.from_residual.ensures.1 in
    rw (p.1, p.2) (answered_no (size_gate _) c.in_err-rows_and_cols.ensures (is_no c.in_err-rows_and_cols.field-0.0) _ ∙ inputs_asked _ _ _)

pub overflow_mul-g : goal.overflow_mul-g
overflow_mul-g c =
    let f = (passed (size_gate _) c.in_ok-rows_and_cols.ensures refl).fact in
    let l = f.cells in
    record { fits = omega arith }

pub returns-then-not-both_have : goal.returns-then-not-both_have
returns-then-not-both_have c =
    rw c.into.ensures (next_no (size_gate _) c.in_ok-rows_and_cols.ensures refl (refusal 7 0) accepted
    (says_no c.both_have.ensures (not_from_false _ c.if-not-both_have.true)) ∙ inputs_asked _ _ _)

pub returns : goal.returns
returns c =
    let k = c.in_ok-rows_and_cols.ensures in
    is_accepted_lem (size_gate _) k refl
    ∙ next_yes (size_gate _) k refl (refusal 7 0) accepted (says_yes c.both_have.ensures (not_from_true _ c.if-not-both_have.false))
    ∙ inputs_asked _ _ _

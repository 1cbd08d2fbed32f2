-- 5, 6 and 17, then 20.
use Rattle.std.proofs.lemmas.Result.{err_from_is_err_and}
use Rattle.refusals.proofs.Answers.{is_no}
use mathlib.Core.Path.{refl, ◌∙◌}
use Rattle.grid.specs.Checks.{accepted, refusal}
use Rattle.checks.proofs.Gate.{answered_no, is_accepted_lem, next_no, next_yes}
use Rattle.checks.proofs.Asked.{says_no, says_yes, size_and_sides_gate, shape_asked}
use Rattle.std.proofs.lemmas.Bool.{not_from_false, not_from_true}
use Rattle.checks.proofs.description.Goals as goal

pub returns-in_err-rows_cols_and_sides : goal.returns-in_err-rows_cols_and_sides
returns-in_err-rows_cols_and_sides c =
    let p = err_from_is_err_and c.from_residual.result c.from_residual.ensures.1 in
    rw (p.1, p.2) (answered_no (size_and_sides_gate _) c.in_err-rows_cols_and_sides.ensures (is_no c.in_err-rows_cols_and_sides.field-0.0) _ ∙ shape_asked _ _)

pub returns-then-not-is_shaped : goal.returns-then-not-is_shaped
returns-then-not-is_shaped c =
    rw c.into.ensures (next_no (size_and_sides_gate _) c.in_ok-rows_cols_and_sides.ensures refl (refusal 20 0) accepted
    (says_no c.is_shaped.ensures (not_from_false _ c.if-not-is_shaped.true))
    ∙ shape_asked _ _)

pub returns : goal.returns
returns c =
    let k = c.in_ok-rows_cols_and_sides.ensures in
    is_accepted_lem (size_and_sides_gate _) k refl
    ∙ next_yes (size_and_sides_gate _) k refl (refusal 20 0) accepted (says_yes c.is_shaped.ensures (not_from_true _ c.if-not-is_shaped.false))
    ∙ shape_asked _ _

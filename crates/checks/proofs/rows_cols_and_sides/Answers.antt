-- 5 and 6, then 17.
use Rattle.std.proofs.lemmas.Result.{err_from_is_err_and}
use Rattle.refusals.proofs.Answers.{is_no}
use mathlib.Core.Path.{refl, ◌∙◌}
use borrow.Author.Tests.{le-leb, lt-leb}
use Rattle.grid.specs.Checks.{accepted, refusal, ask_sides}
use Rattle.checks.proofs.Gate.{answered_no, is_accepted_lem, next_no, next_yes}
use Rattle.checks.proofs.Asked.{size_gate}
use Rattle.checks.proofs.rows_cols_and_sides.Goals as goal

pub returns-in_err-rows_and_cols : goal.returns-in_err-rows_and_cols
returns-in_err-rows_and_cols c =
    let p = err_from_is_err_and c.from_residual.result c.from_residual.ensures.1 in
    rw (p.1, p.2) (answered_no (size_gate _) c.in_err-rows_and_cols.ensures (is_no c.in_err-rows_and_cols.field-0.0) _)

pub returns-then-g-gt15 : goal.returns-then-g-gt15
unfolding ask_sides
returns-then-g-gt15 c =
    rw c.into.ensures (next_no (size_gate _) c.in_ok-rows_and_cols.ensures refl (refusal 17 0) accepted (lt-leb _ _ c.if-g-gt15.true))

pub returns : goal.returns
unfolding ask_sides
returns c =
    let k = c.in_ok-rows_and_cols.ensures in
    is_accepted_lem (size_gate _) k refl
    ∙ next_yes (size_gate _) k refl (refusal 17 0) accepted (le-leb _ _ c.if-g-gt15.false)

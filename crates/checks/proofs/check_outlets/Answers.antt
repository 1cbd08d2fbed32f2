-- 5, 6, 17, 7 and 8, and then 9.
use Rattle.std.proofs.lemmas.Result.{err_from_is_err_and}
use Rattle.refusals.proofs.Answers.{is_no}
use mathlib.Core.Path.{refl, ◌∙◌}
use native.Mathlib.Omega.{arith}
use Rattle.grid.specs.Checks.{accepted, refusal, ask_work}
use Rattle.checks.proofs.Gate.{passed, answered_no, is_accepted_lem, next_no, next_yes}
use Rattle.checks.proofs.Asked.{says_no, says_yes, outlets_gate}
use Rattle.std.proofs.lemmas.Bool.{not_from_false, not_from_true}
use Rattle.checks.proofs.check_outlets.Goals as goal

pub returns-in_err-outlets : goal.returns-in_err-outlets
returns-in_err-outlets c =
    let p = err_from_is_err_and c.from_residual.result c.from_residual.ensures.1 in
    rw (p.1, p.2) (answered_no (outlets_gate _ _ _) c.in_err-outlets.ensures (is_no c.in_err-outlets.field-0.0) _)

pub has_room-requires : goal.has_room-requires
has_room-requires c =
    let f = (passed (outlets_gate _ _ _) c.in_ok-outlets.ensures refl).fact in
    let l = f.fits.cells in
    omega arith

pub returns-then-not-has_room : goal.returns-then-not-has_room
unfolding ask_work
returns-then-not-has_room c =
    rw c.into.ensures (next_no (outlets_gate _ _ _) c.in_ok-outlets.ensures refl (refusal 9 0) accepted
    (says_no c.has_room.ensures (not_from_false _ c.if-not-has_room.true)))

pub returns : goal.returns
unfolding ask_work
returns c =
    let k = c.in_ok-outlets.ensures in
    is_accepted_lem (outlets_gate _ _ _) k refl
    ∙ next_yes (outlets_gate _ _ _) k refl (refusal 9 0) accepted (says_yes c.has_room.ensures (not_from_true _ c.if-not-has_room.false))

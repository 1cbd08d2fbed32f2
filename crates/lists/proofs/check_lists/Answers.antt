-- `lists::check_lists`: each return is a case of what is asked.
use Rattle.std.proofs.lemmas.Result.{err_from_is_err_and}
use Rattle.refusals.proofs.Answers.{is_no}
use mathlib.Core.Path.{refl}
use Rattle.lists.proofs.Promise.{bad_size, fits, bad_first, bad_second, none_bad}
use Rattle.lists.proofs.check_lists.Goals as goal

pub returns-in_err-rows_and_cols : goal.returns-in_err-rows_and_cols
returns-in_err-rows_and_cols c =
    let p = err_from_is_err_and c.from_residual.result c.from_residual.ensures.1 in
    rw (p.1, p.2) record { answer = bad_size _ _ _ _ c.in_err-rows_and_cols.ensures (is_no c.in_err-rows_and_cols.field-0.0) }

pub first_stray-stray-requires : goal.first_stray-stray-requires
first_stray-stray-requires c =
    let s = c.args in
    fits s.g s.first.now s.second.now _ c.in_ok-rows_and_cols.ensures refl

pub returns-then-stray-first : goal.returns-then-stray-first
returns-then-stray-first c =
    rw c.at.ensures record { answer = bad_first _ _ _ _ c.in_ok-rows_and_cols.ensures refl _ c.first_stray-stray.ensures c.if-stray-first.true }

pub first_stray-other-requires : goal.first_stray-other-requires
first_stray-other-requires c =
    (let s = c.args in fits s.g s.first.now s.second.now _ c.in_ok-rows_and_cols.ensures refl)

pub returns-then-other-second : goal.returns-then-other-second
returns-then-other-second c =
    rw c.at-then-other-second.ensures record { answer = bad_second _ _ _ _ c.in_ok-rows_and_cols.ensures refl _ c.first_stray-stray.ensures c.if-stray-first.false _ c.first_stray-other.ensures c.if-other-second.true }

pub returns : goal.returns
returns c =
    record { answer = none_bad _ _ _ _ c.in_ok-rows_and_cols.ensures refl _ c.first_stray-stray.ensures c.if-stray-first.false _ c.first_stray-other.ensures c.if-other-second.false }

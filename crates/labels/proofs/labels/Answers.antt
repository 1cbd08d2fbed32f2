-- Each return is one answer of the questions, in their order, and `Promise` has the promise for it.
use mathlib.Core.Path.{refl}
use native.Mathlib.Omega.{arith}
use Rattle.std.proofs.lemmas.Result.{err_from_is_err_and}
use Rattle.refusals.proofs.Answers.{is_no}
use Rattle.grid.specs.Checks.{accepted}
use Rattle.grid.specs.Sheet.{size}
use Rattle.receivers.proofs.Codes.{all_codes}
use Rattle.checks.proofs.FromCodes.{refused_promise, sizes, bad_promise, none_bad, endless_promise, made_promise}
use Rattle.checks.proofs.Room.{half_room}
use Rattle.labels.proofs.Promise.{promise}
use borrow.Author.Rules.{rules}
use Rattle.labels.proofs.labels.Goals as goal

pub returns-in_err-check : goal.returns-in_err-check
returns-in_err-check c =
    let a = c.args in
    let p = err_from_is_err_and c.from_residual.result c.from_residual.ensures.1 in
    rw (p.1, p.2) (promise (refused_promise a.g a.codes.now a.labels.now a.work.now _ c.in_err-check.ensures (is_no c.in_err-check.field-0.0)))

pub first_bad_code-bad-requires : goal.first_bad_code-bad-requires
first_bad_code-bad-requires c =
    let a = c.args in
    (sizes a.g a.codes.now a.labels.now a.work.now accepted c.in_ok-check.ensures refl).codes_long

pub overflow_cast-bad : goal.overflow_cast-bad
overflow_cast-bad c =
    let a = c.args in
    let s = sizes a.g a.codes.now a.labels.now a.work.now accepted c.in_ok-check.ensures refl in
    let m = s.codes_long in
    let f = s.fits.cells in
    let h = c.if-bad-given.true in
    omega arith

pub returns-then-bad-given : goal.returns-then-bad-given
returns-then-bad-given c =
    let a = c.args in
    rw c.at.ensures
    (promise (bad_promise a.g a.codes.now a.labels.now a.work.now accepted c.in_ok-check.ensures refl
    c.first_bad_code-bad.result c.first_bad_code-bad.ensures c.if-bad-given.true))

pub invariant_of-sheet : goal.invariant_of-sheet
invariant_of-sheet c =
    let a = c.args in
    let s = sizes a.g a.codes.now a.labels.now a.work.now accepted c.in_ok-check.ensures refl in
    let e = none_bad a.g a.codes.now a.labels.now a.work.now accepted c.in_ok-check.ensures refl c.first_bad_code-bad.result
    c.first_bad_code-bad.ensures c.if-bad-given.false in
    let f = s.fits.cells in
    record {
      size_bound = omega arith;
      rows_bound = s.fits.rows_low;
      codes_len = s.codes_long;
      all_codes = all_codes a.g a.codes.now s.codes_long e;
    }

pub labels_into-first-requires : goal.labels_into-first-requires
labels_into-first-requires c =
    let a = c.args in
    let s = sizes a.g a.codes.now a.labels.now a.work.now accepted c.in_ok-check.ensures refl in
    record {
      labels_len = s.result_long;
      codes_in_bounds = let h = half_room (size a.g) a.work.now s.room in omega arith;
    }

pub overflow_cast-first : goal.overflow_cast-first
overflow_cast-first c =
    let a = c.args in
    let s = sizes a.g a.codes.now a.labels.now a.work.now accepted c.in_ok-check.ensures refl in
    let l = s.codes_long in
    let f = s.fits.cells in
    let h = c.if-first-given.true in
    omega arith

pub returns-then-first-given : goal.returns-then-first-given
returns-then-first-given c =
    let a = c.args in
    let w = a.work.now in
    let e = none_bad a.g a.codes.now a.labels.now w accepted c.in_ok-check.ensures refl c.first_bad_code-bad.result c.first_bad_code-bad.ensures
    c.if-bad-given.false in
    rw c.at-then-first-given.ensures
    (promise
    (endless_promise a.g a.codes.now a.labels.now w accepted c.in_ok-check.ensures refl e c.labels_into-first.result c.labels_into-first.ensures.value
    c.labels_into-first.new.labels _ c.labels_into-first.ensures.labels_after ((search rules)) c.if-first-given.true))

pub returns : goal.returns
returns c =
    let a = c.args in
    let w = a.work.now in
    let e = none_bad a.g a.codes.now a.labels.now w accepted c.in_ok-check.ensures refl c.first_bad_code-bad.result c.first_bad_code-bad.ensures
    c.if-bad-given.false in
    promise
    (made_promise a.g a.codes.now a.labels.now w accepted c.in_ok-check.ensures refl e c.labels_into-first.result c.labels_into-first.ensures.value
    c.labels_into-first.new.labels _ c.labels_into-first.ensures.labels_after ((search rules)) c.if-first-given.false)

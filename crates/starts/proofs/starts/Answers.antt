-- Each return is one answer of the questions, in their order, and `Promise` has the promise for it.
use mathlib.Core.Path.{refl}
use native.Mathlib.Omega.{arith}
use Rattle.std.proofs.lemmas.Result.{err_from_is_err_and}
use Rattle.grid.specs.Checks.{accepted}
use Rattle.refusals.specs.Answers.{counted_of}
use Rattle.refusals.proofs.Answers.{is_no}
use Rattle.grid.specs.Sheet.{size}
use Rattle.receivers.proofs.Codes.{all_codes}
use Rattle.checks.proofs.Room.{half_room}
use Rattle.starts.proofs.Promise.{refused_promise, sizes, bad_promise, none_bad, started_promise}
use borrow.Author.Rules.{rules}
use Rattle.starts.proofs.starts.Goals as goal

pub returns-in_err-check : goal.returns-in_err-check
returns-in_err-check c =
    let a = c.args in
    let p = err_from_is_err_and c.from_residual.result c.from_residual.ensures.1 in
    rw (p.1, p.2)
    (refused_promise a.g a.codes.now a.counts.now a.threshold a.starts.now a.work.now _ c.in_err-check.ensures
    (is_no c.in_err-check.field-0.0))

pub first_bad_code-bad-requires : goal.first_bad_code-bad-requires
first_bad_code-bad-requires c =
    let a = c.args in
    (sizes a.g a.codes.now a.counts.now a.threshold a.starts.now a.work.now accepted c.in_ok-check.ensures refl).codes_long

pub overflow_cast-bad : goal.overflow_cast-bad
overflow_cast-bad c =
    let a = c.args in
    let s = sizes a.g a.codes.now a.counts.now a.threshold a.starts.now a.work.now accepted c.in_ok-check.ensures refl in
    let m = s.codes_long in
    let f = s.fits.cells in
    let h = c.if-bad-given.true in
    omega arith

pub returns-then-bad-given : goal.returns-then-bad-given
returns-then-bad-given c =
    let a = c.args in
    rw c.at.ensures
    (bad_promise a.g a.codes.now a.counts.now a.threshold a.starts.now a.work.now accepted c.in_ok-check.ensures refl c.first_bad_code-bad.result c.first_bad_code-bad.ensures c.if-bad-given.true)

pub invariant_of-sheet : goal.invariant_of-sheet
invariant_of-sheet c =
    let a = c.args in
    let s = sizes a.g a.codes.now a.counts.now a.threshold a.starts.now a.work.now accepted c.in_ok-check.ensures refl in
    let f = s.fits.cells in
    let e = none_bad a.g a.codes.now a.counts.now a.threshold a.starts.now a.work.now accepted c.in_ok-check.ensures refl c.first_bad_code-bad.result c.first_bad_code-bad.ensures c.if-bad-given.false in
    record {
      size_bound = omega arith;
      rows_bound = s.fits.rows_low;
      codes_len = s.codes_long;
      all_codes = all_codes a.g a.codes.now s.codes_long e;
    }

pub starts_into-requires : goal.starts_into-requires
starts_into-requires c =
    let a = c.args in
    let s = sizes a.g a.codes.now a.counts.now a.threshold a.starts.now a.work.now accepted c.in_ok-check.ensures refl in
    record {
      counts_len = s.counts_long;
      starts_len = s.result_long;
      codes_in_bounds = half_room (size a.g) a.work.now s.room;
    }

pub returns : goal.returns
returns c =
    let a = c.args in
    let e = none_bad a.g a.codes.now a.counts.now a.threshold a.starts.now a.work.now accepted c.in_ok-check.ensures refl c.first_bad_code-bad.result c.first_bad_code-bad.ensures c.if-bad-given.false in
    started_promise a.g a.codes.now a.counts.now a.threshold a.starts.now a.work.now accepted c.in_ok-check.ensures refl e c.starts_into.new.starts _ (counted_of c.starts_into.result) c.starts_into.ensures ((search rules))

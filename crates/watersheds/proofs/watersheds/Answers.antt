-- A no of the first checks stands; after a yes the sizes are what the inner function asks for, and its answer is the call's.
use mathlib.Core.Path.{refl}
use Rattle.std.proofs.lemmas.Result.{err_from_is_err_and}
use Rattle.grid.specs.Checks.{accepted}
use Rattle.refusals.specs.Answers.{answer_of}
use Rattle.refusals.proofs.Answers.{is_no}
use Rattle.watersheds.proofs.Promise.{refused_promise, sizes, answered_promise}
use Rattle.watersheds.proofs.watersheds.Goals as goal

pub returns-in_err-check : goal.returns-in_err-check
returns-in_err-check c =
    let a = c.args in
    let p = err_from_is_err_and c.from_residual.result c.from_residual.ensures.1 in
    rw (p.1, p.2)
    (refused_promise a.g a.codes.now a.starts.now a.watersheds.now a.work.now _ c.in_err-check.ensures (is_no c.in_err-check.field-0.0))

pub watersheds_into-requires : goal.watersheds_into-requires
watersheds_into-requires c =
    let a = c.args in
    let s = sizes a.g a.codes.now a.starts.now a.watersheds.now a.work.now accepted c.in_ok-check.ensures refl in
    record {
      fits = s.fits;
      codes_len = s.codes_long;
      starts_len = s.starts_long;
      watersheds_len = s.result_long;
      g_in_bounds = s.room;
    }

pub returns : goal.returns
returns c =
    let a = c.args in
    answered_promise a.g a.codes.now a.starts.now a.watersheds.now a.work.now accepted c.in_ok-check.ensures refl
    (answer_of c.watersheds_into.result) c.watersheds_into.new.watersheds c.watersheds_into.new.work
    c.watersheds_into.ensures.value c.watersheds_into.ensures.watersheds_after c.watersheds_into.auto.work

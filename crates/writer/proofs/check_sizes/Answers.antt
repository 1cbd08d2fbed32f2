-- `writer::check_sizes`: each return is a case of what is asked.
use Rattle.std.proofs.lemmas.Result.{err_from_is_err_and}
use Rattle.refusals.specs.Answers.{refused}
use Rattle.refusals.proofs.Answers.{is_no}
use mathlib.Core.Path.{refl}
use Rattle.grid.specs.Checks.{accepted}
use Rattle.writer.proofs.Promise.{bad_sizes, fits, too_short, room_enough}
use Rattle.writer.proofs.check_sizes.Goals as goal

pub returns-in_err-inputs : goal.returns-in_err-inputs
returns-in_err-inputs c =
    let s = c.args in
    let p = err_from_is_err_and c.from_residual.result c.from_residual.ensures.1 in
    rw (p.1, p.2) (bad_sizes s.g s.given s.room (refused c.in_err-inputs.field-0.0) c.in_err-inputs.ensures (is_no c.in_err-inputs.field-0.0))

pub text_length-requires : goal.text_length-requires
text_length-requires c =
    let s = c.args in
    let f = fits s.g s.given s.room accepted c.in_ok-inputs.ensures refl in
    (f.rows_high, f.cols_high)

pub returns-then-room-text_length : goal.returns-then-room-text_length
returns-then-room-text_length c =
    let s = c.args in
    rw c.into.ensures (too_short s.g s.given s.room accepted c.in_ok-inputs.ensures refl (rw c.text_length.ensures at c.if-room-text_length.true))

pub returns : goal.returns
returns c =
    let s = c.args in
    room_enough s.g s.given s.room accepted c.in_ok-inputs.ensures refl (rw c.text_length.ensures at c.if-room-text_length.false)

-- A no of the first checks stands; after a yes 11 and 12 are asked by way of the second half.
use borrow.Author.Rules.{rules}
use mathlib.Core.Path.{refl}
use Rattle.std.proofs.lemmas.Result.{err_from_is_err_and}
use Rattle.grid.specs.Checks.{accepted}
use Rattle.refusals.specs.Answers.{answer_of}
use Rattle.refusals.proofs.Answers.{is_no}
use Rattle.code_check.proofs.Answers.{refused, sizes, codes_asked}
use Rattle.code_check.proofs.check.Goals as goal

pub returns-in_err-check : goal.returns-in_err-check
returns-in_err-check c =
    let a = c.args in
    let p = err_from_is_err_and c.from_residual.result c.from_residual.ensures.1 in
    rw (p.1, p.2) (refused a.g a.codes.now a.work.now _ c.in_err-check.ensures (is_no c.in_err-check.field-0.0))

pub codes_within-requires : goal.codes_within-requires
codes_within-requires c =
    let a = c.args in
    let s = sizes a.g a.codes.now a.work.now accepted c.in_ok-check.ensures refl in
    record {
      fits = s.fits;
      codes_len = s.inputs_have.0;
      g_in_bounds = s.room;
    }

pub returns : goal.returns
returns c =
    let a = c.args in
    codes_asked a.g a.codes.now a.work.now accepted c.in_ok-check.ensures refl (answer_of c.codes_within.result) c.codes_within.new.work c.codes_within.ensures
    ((search rules))

-- `writer::write`: beside a no, and after the last yes.
use Rattle.std.proofs.lemmas.Result.{err_from_is_err_and}
use Rattle.refusals.specs.Answers.{refused}
use Rattle.refusals.proofs.Answers.{is_no}
use mathlib.Core.Path.{refl}
use native.Mathlib.Omega.{arith}
use Rattle.grid.specs.Checks.{accepted}
use Rattle.writer.proofs.Promise.{beside_no, sheet_fits, count_small, written}
use Rattle.writer.proofs.write.Goals as goal

pub returns-in_err-check : goal.returns-in_err-check
returns-in_err-check c =
    let s = c.args in
    let p = err_from_is_err_and c.from_residual.result c.from_residual.ensures.1 in
    let no_of = c.in_err-check.field-0.0 in
    rw (p.1, p.2) (beside_no s.g s.elevations.now s.text.now (refused no_of) c.in_err-check.ensures (is_no no_of))

pub write_elevations-length-requires : goal.write_elevations-length-requires
write_elevations-length-requires c =
    let s = c.args in
    sheet_fits s.g s.elevations.now s.text.now accepted c.in_ok-check.ensures refl

pub overflow_cast-result : goal.overflow_cast-result
overflow_cast-result c =
    let s = c.args in
    let small = count_small s.g s.elevations.now s.text.now accepted c.in_ok-check.ensures refl
    c.write_elevations-length.ensures.put in
    omega (arith, small)

pub returns : goal.returns
returns c =
    let s = c.args in
    written s.g s.elevations.now s.text.now accepted c.in_ok-check.ensures refl c.write_elevations-length.ensures.put c.write_elevations-length.ensures.sixteen_bits

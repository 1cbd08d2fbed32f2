-- The no to 11 or 12 stands; after a yes 13 and 24 are answered.
use mathlib.Core.Path.{refl}
use Rattle.std.proofs.lemmas.Result.{err_from_is_err_and}
use Rattle.grid.specs.Checks.{accepted}
use Rattle.refusals.specs.Answers.{answer_of}
use Rattle.refusals.proofs.Answers.{is_no}
use Rattle.watershed_walk.proofs.Asking.{answer_no, answer_after}
use Rattle.watershed_walk.proofs.routes_check.Goals as goal

pub returns-in_err-codes_check : goal.returns-in_err-codes_check
returns-in_err-codes_check c =
    let p = err_from_is_err_and c.from_residual.result c.from_residual.ensures.1 in
    rw (p.1, p.2)
    (answer_no c.args.g c.args.codes.now c.args.starts.now _ c.in_err-codes_check.ensures (is_no c.in_err-codes_check.field-0.0))

pub returns : goal.returns
returns c =
    answer_after c.args.g c.args.codes.now c.args.starts.now accepted c.in_ok-codes_check.ensures refl (answer_of c.starts_check.result)
    c.starts_check.ensures

-- Up to 9, then 15 and 16.
use Rattle.std.proofs.lemmas.Result.{err_from_is_err_and}
use Rattle.refusals.specs.Answers.{refused, answer_of}
use Rattle.refusals.proofs.Answers.{is_no}
use mathlib.Core.Path.{refl, ◌∙◌}
use Rattle.grid.specs.Checks.{accepted}
use Rattle.culverts.proofs.Promise.{sized_no, one_length, entries_asked}
use Rattle.culverts.proofs.ask.Goals as goal

pub returns-in_err-ask_lengths : goal.returns-in_err-ask_lengths
returns-in_err-ask_lengths c =
    let a = c.args in
    let p = err_from_is_err_and c.from_residual.result c.from_residual.ensures.1 in
    rw (p.1, p.2) (sized_no a.g a.elevations.now a.cells.now a.levels.now a.lent.filled a.lent.codes a.lent.counts a.lent.labels a.lent.work
    (refused c.in_err-ask_lengths.field-0.0) c.in_err-ask_lengths.ensures (is_no c.in_err-ask_lengths.field-0.0))

pub check-requires : goal.check-requires
check-requires c =
    let a = c.args in
    one_length a.g a.elevations.now a.cells.now a.levels.now a.lent.filled a.lent.codes a.lent.counts a.lent.labels a.lent.work
    accepted c.in_ok-ask_lengths.ensures refl

pub returns : goal.returns
returns c =
    let a = c.args in
    entries_asked a.g a.elevations.now a.cells.now a.levels.now a.lent.filled a.lent.codes a.lent.counts a.lent.labels a.lent.work
    accepted c.in_ok-ask_lengths.ensures refl (answer_of c.check.result) c.check.ensures

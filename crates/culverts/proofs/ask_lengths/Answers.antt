-- 5, 6, 17 and 20, then 7 of the two lists, then 7 to 9 as for any sheets.
use Rattle.std.proofs.lemmas.Result.{err_from_is_err_and}
use Rattle.refusals.specs.Answers.{refused, answer_of}
use Rattle.refusals.proofs.Answers.{is_no}
use mathlib.Core.Path.{refl}
use Rattle.grid.specs.Checks.{accepted}
use Rattle.culverts.proofs.Promise.{description_no, unlike_lists, sheets_asked}
use Rattle.culverts.proofs.ask_lengths.Goals as goal

pub returns-in_err-description : goal.returns-in_err-description
returns-in_err-description c =
    let a = c.args in
    let p = err_from_is_err_and c.from_residual.result c.from_residual.ensures.1 in
    rw (p.1, p.2) (description_no a.g a.elevations.now a.cells.now a.levels.now a.lent.filled a.lent.codes a.lent.counts a.lent.labels a.lent.work
    (refused c.in_err-description.field-0.0) c.in_err-description.ensures (is_no c.in_err-description.field-0.0))

pub returns-then-levels-cells : goal.returns-then-levels-cells
returns-then-levels-cells c =
    let a = c.args in
    rw c.into.ensures (unlike_lists a.g a.elevations.now a.cells.now a.levels.now a.lent.filled a.lent.codes a.lent.counts a.lent.labels a.lent.work
    accepted c.in_ok-description.ensures refl c.if-levels-cells.true)

pub returns : goal.returns
returns c =
    let a = c.args in
    sheets_asked a.g a.elevations.now a.cells.now a.levels.now a.lent.filled a.lent.codes a.lent.counts a.lent.labels a.lent.work
    accepted c.in_ok-description.ensures refl c.if-levels-cells.false (answer_of c.check.result) c.check.ensures

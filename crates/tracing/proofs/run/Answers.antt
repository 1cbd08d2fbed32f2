-- The first no stands, and beside it the state; after the last yes every trace stands on a code, and the turns are taken.
use mathlib.Core.Path.{refl}
use Rattle.std.proofs.lemmas.Result.{err_from_is_err_and}
use Rattle.grid.specs.Checks.{accepted}
use Rattle.refusals.proofs.Answers.{is_no}
use Rattle.tracing.proofs.Promise.{refused_run, on_sheet, lost_run, standing, answered_run}
use Rattle.tracing.proofs.run.Goals as goal

pub returns-in_err-check : goal.returns-in_err-check
returns-in_err-check c =
    let a = c.args in
    let p = err_from_is_err_and c.from_residual.result c.from_residual.ensures.1 in
    rw (p.1, p.2) (refused_run a.g a.codes.now a.work.now c.check.new.work _ c.in_err-check.ensures a.n a.crews.now (is_no c.in_err-check.field-0.0))

pub first_lost-requires : goal.first_lost-requires
first_lost-requires c =
    let a = c.args in
    (on_sheet a.g a.codes.now a.work.now c.check.new.work accepted c.in_ok-check.ensures refl).all

pub returns-in-Some : goal.returns-in-Some
returns-in-Some c =
    let a = c.args in
    rw c.at.ensures
    (lost_run a.g a.codes.now a.work.now c.check.new.work accepted c.in_ok-check.ensures refl a.n a.crews.now
    c.in-Some.lost.k c.in-Some.lost.in_range c.in-Some.ensures)

pub take_turns-requires : goal.take_turns-requires
take_turns-requires c =
    let a = c.args in
    record {
      on_sheet = on_sheet a.g a.codes.now a.work.now c.check.new.work accepted c.in_ok-check.ensures refl;
      standing = standing a.g a.codes.now a.work.now c.check.new.work accepted c.in_ok-check.ensures refl a.n a.crews.now c.in_default.ensures;
    }

pub returns : goal.returns
returns c =
    let a = c.args in
    answered_run a.g a.codes.now a.work.now c.check.new.work accepted c.in_ok-check.ensures refl a.n a.crews.now c.in_default.ensures
    c.take_turns.new.crews c.take_turns.ensures

-- The questions, and after a yes the four results of the opened sheet.
use Rattle.std.proofs.lemmas.Result.{err_from_is_err_and}
use Rattle.refusals.specs.Answers.{refused, refused_located}
use Rattle.refusals.proofs.Answers.{is_no}
use mathlib.Core.Path.{refl}
use lib.ListN.{length}
use Rattle.grid.specs.Checks.{accepted}
use Rattle.culverts.proofs.Promise.{passed_16, promise_of_no, promise_of_yes}
use Rattle.culverts.proofs.culverts.Goals as goal

pub returns-in_err-ask : goal.returns-in_err-ask
returns-in_err-ask c =
    let a = c.args in
    let p = err_from_is_err_and c.from_residual.result c.from_residual.ensures.1 in
    rw (p.1, p.2) (promise_of_no a.g a.elevations.now a.cells.now a.levels.now a.filled.now a.codes.now a.counts.now
    a.labels.now a.work.now (refused_located c.in_err-ask.field-0.0) c.in_err-ask.ensures (is_no c.in_err-ask.field-0.0))

pub drain_opened-requires : goal.drain_opened-requires
drain_opened-requires c =
    let a = c.args in
    let h = passed_16 a.g a.elevations.now a.cells.now a.levels.now (length a.filled.now) (length a.codes.now)
    (length a.counts.now) (length a.labels.now) (length a.work.now) accepted c.in_ok-ask.ensures refl in
    record {
      measured = h.sizes;
      elevations_len = h.given;
      levels_len = h.pairs;
      levels_value = h.none_bad;
    }

pub returns-in_err-drain_opened : goal.returns-in_err-drain_opened
returns-in_err-drain_opened c =
    let a = c.args in
    let no = c.in_err-drain_opened.field-0.0 in
    let p = err_from_is_err_and c.from_residual-in_err-drain_opened.result c.from_residual-in_err-drain_opened.ensures.1 in
    rw (p.1, p.2) (promise_of_yes a.g a.elevations.now a.cells.now a.levels.now a.filled.now a.codes.now a.counts.now
    a.labels.now a.work.now (record { number = 0; place = 0 }) c.in_ok-ask.ensures refl _ _ _ _ _ (refused no) c.in_err-drain_opened.ensures.value
    c.in_err-drain_opened.ensures.four_results c.drain_opened.auto.work (refused_located no) refl)

pub returns : goal.returns
returns c =
    let a = c.args in
    promise_of_yes a.g a.elevations.now a.cells.now a.levels.now a.filled.now a.codes.now a.counts.now
    a.labels.now a.work.now (record { number = 0; place = 0 }) c.in_ok-ask.ensures refl _ _ _ _ _ accepted c.in_ok-drain_opened.ensures.value c.in_ok-drain_opened.ensures.four_results
    c.drain_opened.auto.work (record { number = 0; place = 0 }) refl

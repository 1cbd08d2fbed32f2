-- The first no stands, and beside it the state; after the last yes the trace is put.
use mathlib.Core.Path.{refl, ap, ◌∙◌}
use Prim.Native.Nat.{ℕ}
use Rattle.std.proofs.lemmas.Result.{err_from_is_err_and}
use Rattle.grid.specs.Checks.{accepted}
use Rattle.grid.specs.Crews.{handed_in}
use Rattle.refusals.proofs.Answers.{is_no}
use Rattle.checks.proofs.Gate.{kept}
use Rattle.tracing.proofs.Promise.{refused_hand_in, on_sheet, answered_hand_in}
use Rattle.tracing.proofs.hand_in.Goals as goal

pub returns-in_err-check : goal.returns-in_err-check
returns-in_err-check c =
    let a = c.args in
    let p = err_from_is_err_and c.from_residual.result c.from_residual.ensures.1 in
    rw (p.1, p.2)
    (refused_hand_in a.g a.codes.now a.work.now c.check.new.work _ c.in_err-check.ensures a.crew a.cell a.crews.now (is_no c.in_err-check.field-0.0))

pub ask_trace-requires : goal.ask_trace-requires
ask_trace-requires c =
    let a = c.args in
    (on_sheet a.g a.codes.now a.work.now c.check.new.work accepted c.in_ok-check.ensures refl).all

pub returns-in_err-crew : goal.returns-in_err-crew
returns-in_err-crew c =
    let a = c.args in
    let p = err_from_is_err_and c.from_residual-in_err-crew.result c.from_residual-in_err-crew.ensures.1 in
    rw (p.1, p.2)
    (answered_hand_in a.g a.codes.now a.work.now c.check.new.work accepted c.in_ok-check.ensures refl a.crew a.cell
    a.crews.now a.crews.now _ c.in_err-crew.ensures.answer (kept (is_no c.in_err-crew.field-0.0) (handed_in a.crews.now a.crew a.cell)))

pub returns : goal.returns
returns c =
    let a = c.args in
    answered_hand_in a.g a.codes.now a.work.now c.check.new.work accepted c.in_ok-check.ensures refl a.crew a.cell
    a.crews.now c.put_trace.new.crews accepted c.in_ok-crew.ensures.answer
    (c.put_trace.ensures ∙ ap (λ (k : ℕ). handed_in a.crews.now k a.cell) c.in_ok-crew.ensures.crew)

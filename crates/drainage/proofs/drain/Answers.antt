-- The answer of the checks stands beside a no; after a yes load, and drain what is loaded.
use Rattle.std.proofs.lemmas.Result.{err_from_is_err_and}
use Rattle.refusals.specs.Answers.{refused, answer_of}
use Rattle.refusals.proofs.Answers.{is_no}
use mathlib.Core.Path.{refl, sym, ◌∙◌, ap, subst}
use mathlib.Core.List.{List}
use native.Mathlib.Omega.{arith}
use lib.ListN.{length}
use lib.IntN.{ℤ}
use Rattle.grid.specs.Checks.{accepted, ask_reach}
use Rattle.fill.proofs.Words.{loaded_keys, loaded_sheet}
use Rattle.fill.proofs.Voids.{loaded_voids}
use Rattle.drainage.specs.Results.{Measured}
use Rattle.drainage.proofs.Four.{measured, four_of}
use Rattle.drainage.proofs.Promise.{sized, promise_of_no, promise_of_yes}
use Rattle.drainage.proofs.drain.Goals as goal

pub returns-in_err-check_flow : goal.returns-in_err-check_flow
returns-in_err-check_flow c =
    let a = c.args in
    let p = err_from_is_err_and c.from_residual.result c.from_residual.ensures.1 in
    rw (p.1, p.2) (promise_of_no a.g a.elevations.now a.filled.now a.codes.now a.counts.now a.labels.now a.work.now
    (refused c.in_err-check_flow.field-0.0) c.in_err-check_flow.ensures (is_no c.in_err-check_flow.field-0.0))

pub load-requires : goal.load-requires
load-requires c =
    let a = c.args in
    let z = sized a.g (length a.elevations.now) (length a.filled.now) (length a.codes.now) (length a.counts.now)
    (length a.labels.now) (length a.work.now) accepted c.in_ok-check_flow.ensures refl in
    let cells = z.inputs_have.0 in
    let room = z.room in
    omega arith

pub drain_loaded-requires : goal.drain_loaded-requires
drain_loaded-requires c =
    let a = c.args in
    let z = sized a.g (length a.elevations.now) (length a.filled.now) (length a.codes.now) (length a.counts.now)
    (length a.labels.now) (length a.work.now) accepted c.in_ok-check_flow.ensures refl in
    record {
      measured = subst (Measured a.g _ _ _ _) (sym c.load.auto.work) (measured a.g _ _ _ _ _ _ z);
      elevations_len = z.inputs_have.0;
      are_keys = loaded_keys a.g a.elevations.now c.load.new.work z.inputs_have.0 c.load.ensures.sixteen_bits c.load.ensures.by_index;
      same_voids = loaded_voids a.g a.elevations.now c.load.new.work z.inputs_have.0 c.load.ensures.sixteen_bits c.load.ensures.by_index;
    }

pub returns : goal.returns
returns c =
    let a = c.args in
    let z = sized a.g (length a.elevations.now) (length a.filled.now) (length a.codes.now) (length a.counts.now)
    (length a.labels.now) (length a.work.now) accepted c.in_ok-check_flow.ensures refl in
    let sheet = loaded_sheet a.g a.elevations.now c.load.new.work z.inputs_have.0 c.load.ensures.sixteen_bits c.load.ensures.by_index in
    promise_of_yes a.g a.elevations.now a.filled.now a.codes.now a.counts.now a.labels.now a.work.now
    accepted c.in_ok-check_flow.ensures refl _ _ _ _ _ (answer_of c.drain_loaded.result)
    (c.drain_loaded.ensures.value ∙ ap (λ (x : List ℤ). ask_reach a.g x accepted) sheet) (four_of sheet c.drain_loaded.ensures.four_results)
    (c.drain_loaded.auto.work ∙ c.load.auto.work)

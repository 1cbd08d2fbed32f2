-- The answer of the checks stands beside a no; after a yes its sizes are what `mark_voids` and `directions_into` ask for, and what the
-- latter answers is question 10, after 18.
use Rattle.std.proofs.lemmas.Result.{err_from_is_err_and}
use Rattle.refusals.specs.Answers.{refused}
use Rattle.refusals.proofs.Answers.{is_no}
use Rattle.grid.specs.Checks.{accepted}
use mathlib.Core.Path.{refl, sym, ◌∙◌, subst}
use Prim.Native.Nat.{ℕ, ◌+◌, ◌/◌}
use native.Mathlib.Omega.{arith}
use Rattle.grid.specs.Sheet.{size}
use Rattle.cells.specs.Marks.{Marked}
use Rattle.directions.proofs.Promise.{refused_promise, accepted_sizes, lacking_promise, accepted_promise}
use Rattle.directions.proofs.directions.Goals as goal

pub returns-in_err-check_flow : goal.returns-in_err-check_flow
returns-in_err-check_flow c =
    let a = c.args in
    let p = err_from_is_err_and c.from_residual.result c.from_residual.ensures.1 in
    rw (p.1, p.2) (refused_promise a.g a.elevations.now a.codes.now a.work.now (refused c.in_err-check_flow.field-0.0) c.in_err-check_flow.ensures (is_no c.in_err-check_flow.field-0.0))

pub mark_voids-requires : goal.mark_voids-requires
mark_voids-requires c =
    let a = c.args in
    let s = accepted_sizes a.g a.elevations.now a.codes.now a.work.now accepted c.in_ok-check_flow.ensures refl in
    s.3

pub directions_into-first-requires : goal.directions_into-first-requires
directions_into-first-requires c =
    let a = c.args in
    let s = accepted_sizes a.g a.elevations.now a.codes.now a.work.now accepted c.in_ok-check_flow.ensures refl in
    let room = s.3 in
    let same = c.mark_voids.auto.work in
    let marks =
    subst (λ (l : ℕ). Marked a.g a.elevations.now (l / 2 + size a.g) c.mark_voids.new.work) (sym same) c.mark_voids.ensures in
    record {
      codes_len = s.2;
      g_in_bounds = omega arith;
      shaped = s.5;
      marked = marks;
    }

pub lacking-requires : goal.lacking-requires
lacking-requires c =
    let a = c.args in
    let s = accepted_sizes a.g a.elevations.now a.codes.now a.work.now accepted c.in_ok-check_flow.ensures refl in
    let len = s.1 in
    let room = s.3 in
    let same = c.directions_into-first.auto.work ∙ c.mark_voids.auto.work in
    let h = c.if-first-given.true in
    record {
      g_in_bounds = omega arith;
      first_bound = omega arith;
    }

pub returns-then-first-given : goal.returns-then-first-given
returns-then-first-given c =
    let a = c.args in
    lacking_promise a.g a.elevations.now a.codes.now a.work.now accepted c.in_ok-check_flow.ensures refl c.directions_into-first.result
    c.directions_into-first.ensures.value c.directions_into-first.new.codes c.lacking.new.work c.directions_into-first.ensures.codes_after
    (c.lacking.auto.work ∙ c.directions_into-first.auto.work ∙ c.mark_voids.auto.work) c.if-first-given.true (refused c.lacking.result) c.lacking.ensures

pub returns : goal.returns
returns c =
    let a = c.args in
    accepted_promise a.g a.elevations.now a.codes.now a.work.now accepted c.in_ok-check_flow.ensures refl c.directions_into-first.result
    c.directions_into-first.ensures.value c.directions_into-first.new.codes c.directions_into-first.new.work c.directions_into-first.ensures.codes_after (c.directions_into-first.auto.work ∙ c.mark_voids.auto.work) c.if-first-given.false

pub invariant_of-sheet : goal.invariant_of-sheet
invariant_of-sheet c =
    let a = c.args in
    let s = accepted_sizes a.g a.elevations.now a.codes.now a.work.now accepted c.in_ok-check_flow.ensures refl in
    record {
      size_bound = s.0;
      cols_bound = s.4;
      elevations_len = s.1;
    }

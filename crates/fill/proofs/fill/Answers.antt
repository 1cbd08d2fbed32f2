-- The answer of the checks stands beside a no; after a yes load, and fill what is loaded; what that answers is question 18.
use Rattle.std.proofs.lemmas.Result.{err_from_is_err_and}
use Rattle.refusals.specs.Answers.{refused}
use Rattle.refusals.proofs.Answers.{is_no}
use Rattle.grid.specs.Checks.{accepted}
use mathlib.Core.Path.{refl, ◌∙◌, ap}
use native.Mathlib.Omega.{arith}
use mathlib.Core.Bool.{cond}
use mathlib.Core.List.{List}
use lib.Dec.{eqb}
use lib.IntN.{ℤ}
use Rattle.grid.specs.Sheet.{size}
use Rattle.grid.specs.Outlet.{first_stranded}
use Rattle.grid.specs.Fill.{filled}
use Rattle.fill.proofs.Words.{loaded_keys, loaded_sheet}
use Rattle.fill.proofs.Voids.{loaded_voids}
use Rattle.fill.proofs.Promise.{refused_promise, accepted_sizes, stranded_promise, accepted_promise}
use Rattle.fill.proofs.fill.Goals as goal

pub returns-in_err-check_outlets : goal.returns-in_err-check_outlets
returns-in_err-check_outlets c =
    let a = c.args in
    let p = err_from_is_err_and c.from_residual.result c.from_residual.ensures.1 in
    rw (p.1, p.2) (refused_promise a.g a.elevations.now a.filled.now a.work.now (refused c.in_err-check_outlets.field-0.0) c.in_err-check_outlets.ensures (is_no c.in_err-check_outlets.field-0.0))

pub load-requires : goal.load-requires
load-requires c =
    let a = c.args in
    let s = accepted_sizes a.g a.elevations.now a.filled.now a.work.now accepted c.in_ok-check_outlets.ensures refl in
    let cells = s.2 in
    let room = s.4 in
    omega arith

pub fill_loaded-first-requires : goal.fill_loaded-first-requires
fill_loaded-first-requires c =
    let a = c.args in
    let s = accepted_sizes a.g a.elevations.now a.filled.now a.work.now accepted c.in_ok-check_outlets.ensures refl in
    let room = s.4 in
    let same = c.load.auto.work in
    let keys = loaded_keys a.g a.elevations.now c.load.new.work s.2 c.load.ensures.sixteen_bits c.load.ensures.by_index in
    let voids = loaded_voids a.g a.elevations.now c.load.new.work s.2 c.load.ensures.sixteen_bits c.load.ensures.by_index in
    record {
      filled_len = s.3;
      g_in_bounds = omega arith;
      are_keys = keys;
      same_voids = voids;
    }

-- a cell's number fits 32 bits
pub overflow_cast-first : goal.overflow_cast-first
overflow_cast-first c =
    let a = c.args in
    let s = accepted_sizes a.g a.elevations.now a.filled.now a.work.now accepted c.in_ok-check_outlets.ensures refl in
    let small = s.0 in
    let cells = s.2 in
    let h = c.if-first-given.true in
    omega arith

pub returns-then-first-given : goal.returns-then-first-given
returns-then-first-given c =
    let a = c.args in
    let s = accepted_sizes a.g a.elevations.now a.filled.now a.work.now accepted c.in_ok-check_outlets.ensures refl in
    let sheet = loaded_sheet a.g a.elevations.now c.load.new.work s.2 c.load.ensures.sixteen_bits c.load.ensures.by_index in
    rw c.at.ensures (stranded_promise a.g a.elevations.now a.filled.now a.work.now accepted c.in_ok-check_outlets.ensures refl
    c.fill_loaded-first.result (c.fill_loaded-first.ensures.value ∙ ap (first_stranded a.g) sheet) c.fill_loaded-first.new.filled c.fill_loaded-first.new.work
    (c.fill_loaded-first.ensures.filled_after ∙ ap (λ (x : List ℤ). cond (eqb c.fill_loaded-first.result (size a.g)) (filled a.g x) a.filled.now) sheet)
    (c.fill_loaded-first.auto.work ∙ c.load.auto.work) c.if-first-given.true)

pub returns : goal.returns
returns c =
    let a = c.args in
    let s = accepted_sizes a.g a.elevations.now a.filled.now a.work.now accepted c.in_ok-check_outlets.ensures refl in
    let sheet = loaded_sheet a.g a.elevations.now c.load.new.work s.2 c.load.ensures.sixteen_bits c.load.ensures.by_index in
    accepted_promise a.g a.elevations.now a.filled.now a.work.now accepted c.in_ok-check_outlets.ensures refl
    c.fill_loaded-first.result (c.fill_loaded-first.ensures.value ∙ ap (first_stranded a.g) sheet) c.fill_loaded-first.new.filled c.fill_loaded-first.new.work
    (c.fill_loaded-first.ensures.filled_after ∙ ap (λ (x : List ℤ). cond (eqb c.fill_loaded-first.result (size a.g)) (filled a.g x) a.filled.now) sheet)
    (c.fill_loaded-first.auto.work ∙ c.load.auto.work) c.if-first-given.false

pub invariant_of-sheet : goal.invariant_of-sheet
invariant_of-sheet c =
    let a = c.args in
    let s = accepted_sizes a.g a.elevations.now a.filled.now a.work.now accepted c.in_ok-check_outlets.ensures refl in
    record {
      size_bound = s.0;
      cols_bound = s.1;
      elevations_len = s.2;
    }

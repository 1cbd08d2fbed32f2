-- 5 to 8 with 17, the columns' 8, 9, and then the ponds.
use Rattle.std.proofs.lemmas.Result.{err_from_is_err_and}
use Rattle.refusals.specs.Answers.{refused}
use Rattle.refusals.proofs.Answers.{is_no}
use mathlib.Core.Path.{refl}
use Rattle.grid.specs.Checks.{accepted}
use native.Mathlib.Omega.{arith}
use Rattle.checks.proofs.Asked.{says_no, says_yes}
use Rattle.ponds.proofs.Promise.{promise_first, promise_columns, promise_room, promise_settled, cells_few, sizes, ponds_long}
use Rattle.ponds.proofs.Promise.{one_length}
use Rattle.std.proofs.lemmas.Bool.{not_from_false, not_from_true}
use Rattle.ponds.proofs.ponds.Goals as goal

pub returns-in_err-outlets : goal.returns-in_err-outlets
returns-in_err-outlets c =
    let a = c.args in
    let p = err_from_is_err_and c.from_residual.result c.from_residual.ensures.1 in
    rw (p.1, p.2) (promise_first a.g a.elevations.now a.ponds.now a.level.now a.cells.now a.volume.now a.work.now (refused c.in_err-outlets.field-0.0)
    c.in_err-outlets.ensures (is_no c.in_err-outlets.field-0.0))

pub returns-then-not-both_have : goal.returns-then-not-both_have
returns-then-not-both_have c =
    let a = c.args in
    rw c.into.ensures (promise_columns a.g a.elevations.now a.ponds.now a.level.now a.cells.now a.volume.now a.work.now
    accepted c.in_ok-outlets.ensures
    refl (says_no c.both_have.ensures (not_from_false _ c.if-not-both_have.true)))

pub has_room-requires : goal.has_room-requires
has_room-requires c =
    let a = c.args in
    let h = cells_few a.g a.elevations.now a.ponds.now a.level.now a.cells.now a.volume.now a.work.now
    accepted c.in_ok-outlets.ensures refl in
    omega arith

pub returns-then-not-has_room : goal.returns-then-not-has_room
returns-then-not-has_room c =
    let a = c.args in
    rw c.into-then-not-has_room.ensures (promise_room a.g a.elevations.now a.ponds.now a.level.now a.cells.now a.volume.now a.work.now accepted
    c.in_ok-outlets.ensures
    refl
    (says_yes c.both_have.ensures (not_from_true _ c.if-not-both_have.false))
    (says_no c.has_room.ensures (not_from_false _ c.if-not-has_room.true)))

pub settle-requires : goal.settle-requires
settle-requires c =
    let a = c.args in
    let z = refl in
    let y = says_yes c.both_have.ensures (not_from_true _ c.if-not-both_have.false) in
    let r = says_yes c.has_room.ensures (not_from_true _ c.if-not-has_room.false) in
    record {
      sizes = sizes a.g a.elevations.now a.ponds.now a.level.now a.cells.now a.volume.now a.work.now accepted
          c.in_ok-outlets.ensures z y r;
      ponds_len = ponds_long a.g a.elevations.now a.ponds.now a.level.now a.cells.now a.volume.now
          a.work.now accepted c.in_ok-outlets.ensures z y;
      one_length = one_length a.g a.elevations.now a.ponds.now a.level.now a.cells.now
          a.volume.now a.work.now accepted c.in_ok-outlets.ensures z y;
    }

pub returns : goal.returns
returns c =
    let a = c.args in
    let z = refl in
    let y = says_yes c.both_have.ensures (not_from_true _ c.if-not-both_have.false) in
    let r = says_yes c.has_room.ensures (not_from_true _ c.if-not-has_room.false) in
    promise_settled a.g a.elevations.now a.ponds.now a.level.now a.cells.now a.volume.now a.work.now
    accepted c.in_ok-outlets.ensures z y r c.settle.ensures c.settle.auto.work

-- `lists::first_stray`: a walk along the list, with row and column of the cell before.
use mathlib.Core.Path.{sym, ◌∙◌}
use native.Mathlib.Nat.{div-le_self, mod-le}
use native.Mathlib.Omega.{arith}
use lib.ListN.{get_or}
use Rattle.lists.proofs.Stray.{walked_on, off_the_sheet, tested, stray_found, none_found}
use Rattle.std.proofs.lemmas.Bool.{not_from_false, not_from_true}
use Rattle.lists.proofs.first_stray.Goals as goal

pub returns-then-cell-g : goal.returns-then-cell-g
returns-then-cell-g c =
    let a = c.args in
    stray_found a.g a.list.now c.loop-i.i c.loop-i.invariant.straight (omega arith)
    (sym (off_the_sheet a.g a.list.now c.loop-i.i c.if-cell-g.true))

pub may_follow-requires : goal.may_follow-requires
may_follow-requires c =
    let cell = get_or c.args.list.now c.loop-i.i 0 in
    let few = c.requires.cells in
    let on = c.if-cell-g.false in
    record {
      r_bound = c.loop-i.invariant.row_fits;
      q_bound = c.loop-i.invariant.col_fits;
      s_bound = omega (arith, div-le_self cell c.args.g.cols);
      t_bound = omega (arith, mod-le cell c.args.g.cols);
    }

pub returns-then-not-may_follow : goal.returns-then-not-may_follow
returns-then-not-may_follow c =
    let a = c.args in
    stray_found a.g a.list.now c.loop-i.i c.loop-i.invariant.straight (omega arith)
    (tested a.g a.list.now c.loop-i.i c.loop-i.row c.loop-i.col c.if-cell-g.false c.loop-i.invariant.before
    c.may_follow.ensures
    ∙ (not_from_false _ c.if-not-may_follow.true))

pub loop-i-preserved : goal.loop-i-preserved
loop-i-preserved c =
    let a = c.args in
    walked_on a.g a.list.now c.loop-i.i c.loop-i.row c.loop-i.col c.loop-i.invariant c.requires.cells (omega arith) c.if-cell-g.false
    (tested a.g a.list.now c.loop-i.i c.loop-i.row c.loop-i.col c.if-cell-g.false c.loop-i.invariant.before
    c.may_follow.ensures
    ∙ (not_from_true _ c.if-not-may_follow.false))

pub returns : goal.returns
returns c =
    let a = c.args in
    none_found a.g a.list.now c.loop-i.i c.loop-i.invariant.straight (omega arith)

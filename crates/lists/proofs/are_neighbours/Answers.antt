-- `lists::are_neighbours`: each way out by its tests.
use native.Mathlib.Omega.{arith}
use Rattle.checks.proofs.Asked.{says_no, says_yes}
use Rattle.lists.proofs.Beside.{yes_close, rows_apart, cols_apart, by_step}
use Rattle.std.proofs.lemmas.Bool.{not_from_false, not_from_true}
use Rattle.lists.proofs.are_neighbours.Goals as goal

pub returns-then-not-are_close : goal.returns-then-not-are_close
returns-then-not-are_close c =
    rows_apart _ _ _ _ (says_no c.are_close.ensures (not_from_false _ c.if-not-are_close.true))

pub returns-then-not-are_close-2 : goal.returns-then-not-are_close-2
returns-then-not-are_close-2 c =
    cols_apart _ _ _ _ (says_yes c.are_close.ensures (not_from_true _ c.if-not-are_close.false)) (says_no c.are_close-2.ensures (not_from_false _ c.if-not-are_close-2.true))

pub overflow_sub-result : goal.overflow_sub-result
overflow_sub-result c =
    omega (arith, (yes_close _ _ (says_yes c.are_close.ensures (not_from_true _ c.if-not-are_close.false))).0)

pub overflow_sub-result-2 : goal.overflow_sub-result-2
overflow_sub-result-2 c =
    omega (arith, (yes_close _ _ (says_yes c.are_close-2.ensures (not_from_true _ c.if-not-are_close-2.false))).0)

pub returns : goal.returns
returns c =
    by_step _ _ _ _ (says_yes c.are_close.ensures (not_from_true _ c.if-not-are_close.false)) (says_yes c.are_close-2.ensures (not_from_true _ c.if-not-are_close-2.false))

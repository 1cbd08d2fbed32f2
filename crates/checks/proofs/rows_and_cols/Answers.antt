-- Each way out by the tests that led there.
use Rattle.grid.specs.Checks.{ask_size}
use Rattle.checks.proofs.Asked.{says_no, says_yes}
use Rattle.std.proofs.lemmas.Bool.{not_from_false, not_from_true}
use Rattle.checks.proofs.rows_and_cols.Goals as goal

pub returns-then-not-in_range : goal.returns-then-not-in_range
unfolding ask_size
returns-then-not-in_range c = rw c.into.ensures (simp (says_no c.in_range.ensures (not_from_false _ c.if-not-in_range.true)))

pub returns-then-not-in_range-2 : goal.returns-then-not-in_range-2
unfolding ask_size
returns-then-not-in_range-2 c =
    rw c.into-then-not-in_range-2.ensures (simp (
      says_yes c.in_range.ensures (not_from_true _ c.if-not-in_range.false),
      says_no c.in_range-2.ensures (not_from_false _ c.if-not-in_range-2.true),
    ))

pub returns : goal.returns
unfolding ask_size
returns c =
    simp (
      says_yes c.in_range.ensures (not_from_true _ c.if-not-in_range.false),
      says_yes c.in_range-2.ensures (not_from_true _ c.if-not-in_range-2.false),
    )

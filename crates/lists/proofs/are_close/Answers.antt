-- `lists::are_close`: each way out by its test.
use borrow.Author.Tests.{lt-leb, le-leb}
use Rattle.lists.specs.Beside.{are_close}
use Rattle.lists.proofs.are_close.Goals as goal

pub returns-then-x-y : goal.returns-then-x-y
unfolding are_close
returns-then-x-y c = simp (lt-leb _ _ c.if-x-y.true)

pub returns : goal.returns
unfolding are_close
returns c = simp (le-leb _ _ c.if-x-y.false)

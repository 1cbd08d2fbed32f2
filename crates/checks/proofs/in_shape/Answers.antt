use borrow.Author.Tests.{lt-leb, le-leb}
use Rattle.grid.specs.Checks.{in_shape}
use Rattle.checks.proofs.in_shape.Goals as goal

pub returns-then-k-ge1 : goal.returns-then-k-ge1
unfolding in_shape
returns-then-k-ge1 c = simp (le-leb 1 _ c.if-k-ge1.true)

pub returns-else-k-ge1 : goal.returns-else-k-ge1
unfolding in_shape
returns-else-k-ge1 c = simp (lt-leb 1 _ c.if-k-ge1.false)

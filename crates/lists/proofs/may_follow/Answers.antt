-- `lists::may_follow`: by the place.
use mathlib.Core.Path.{sym}
use borrow.Author.Tests.{eq-eqb, ne_eqb}
use Rattle.grid_laws.proofs.Tests.{or_left}
use Rattle.lists.proofs.may_follow.Goals as goal

pub returns-then-i-eq0 : goal.returns-then-i-eq0
returns-then-i-eq0 c = sym (or_left _ (eq-eqb _ 0 c.if-i-eq0.true))

pub returns : goal.returns
returns c = rw (ne_eqb _ 0 c.if-i-eq0.false) c.are_neighbours.ensures

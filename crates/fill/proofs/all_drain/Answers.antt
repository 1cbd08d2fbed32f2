use borrow.Author.Tests.{not-true}
use Rattle.grid_laws.proofs.Tests.{true_false}
use mathlib.Core.Path.{refl}
use Rattle.fill.proofs.all_drain.Goals as goal

pub returns-then-g-ne0 : goal.returns-then-g-ne0
returns-then-g-ne0 c = λ t. true_false t refl

pub returns : goal.returns
returns c = λ t. (c.if-g-ne0.false, not-true _ t)

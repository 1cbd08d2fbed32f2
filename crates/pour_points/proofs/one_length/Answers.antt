-- By the three tests in turn.
use mathlib.Core.Path.{◌≡◌, refl}
use mathlib.Core.Bool.{Bool, true, false, ◌&&◌}
use lib.Dec.{eqb}
use borrow.Author.Tests.{eq-eqb, ne_eqb}
use Rattle.grid.specs.Checks.{all_have}
use Rattle.pour_points.proofs.one_length.Goals as goal

-- nothing is asked of the empty list
all_true : (t : Bool) → t ≡ (t && true)
all_true true = refl
all_true false = refl

pub returns-then-larger-smaller : goal.returns-then-larger-smaller
unfolding all_have
returns-then-larger-smaller c = let a = c.args in rw (ne_eqb a.larger a.smaller c.if-larger-smaller.true)

pub returns-then-elevation-smaller : goal.returns-then-elevation-smaller
unfolding all_have
returns-then-elevation-smaller c =
    let a = c.args in
    rw (eq-eqb a.larger a.smaller c.if-larger-smaller.false, ne_eqb a.elevation a.smaller c.if-elevation-smaller.true)

pub returns : goal.returns
unfolding all_have
returns c =
    let a = c.args in
    rw (eq-eqb a.larger a.smaller c.if-larger-smaller.false, eq-eqb a.elevation a.smaller c.if-elevation-smaller.false)
    (all_true (eqb a.cell a.smaller))

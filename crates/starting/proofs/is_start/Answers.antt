-- Each return is one part of the test.
use mathlib.Core.Path.{refl}
use Rattle.starting.proofs.Numbers.{ends_there, too_few, by_rise}
use Rattle.starting.proofs.is_start.Goals as goal

pub returns-then-next-n : goal.returns-then-next-n
returns-then-next-n c = ends_there _ _ _ _ _ _ refl c.if-next-n.true

pub returns-then-own-threshold : goal.returns-then-own-threshold
returns-then-own-threshold c = too_few _ _ _ _ _ _ refl c.if-next-n.false c.if-own-threshold.true

pub returns : goal.returns
returns c =
    by_rise _ _ _ _ _ _ refl c.if-next-n.false
    c.if-own-threshold.false _ c.rises_above.ensures

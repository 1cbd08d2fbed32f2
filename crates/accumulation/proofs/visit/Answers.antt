-- A cell that waits or is done is settled already; any other begins a walk.
use Rattle.accumulation.proofs.Walk.{settled_already}
use Rattle.accumulation.proofs.visit.Goals as goal

pub returns-then-tail-n-ge-UNIT : goal.returns-then-tail-n-ge-UNIT
returns-then-tail-n-ge-UNIT c = settled_already _ _ _ _ c.requires.between c.if-tail-n-ge-UNIT.true

-- The eight steps one after the other: what stands at those before p is settled.
use Rattle.levels.specs.Spreading.{Spreading}
use Rattle.levels.proofs.spread_around.Given as goal

abbrev pub invariant-loop-p : goal.invariant-loop-p
invariant-loop-p g l = Spreading l.t.raster.grid l.t.elevations.now l.half l.work l.head l.end l.cell l.word l.p

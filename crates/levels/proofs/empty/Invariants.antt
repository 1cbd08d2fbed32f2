use Prim.Native.Nat.{◌-◌}
use Rattle.grid.specs.Sheet.{size}
use Rattle.flow_laws.specs.Words.{Searching}
use Rattle.levels.proofs.empty.Given as goal

abbrev pub invariant-loop-head : goal.invariant-loop-head
invariant-loop-head g l = Searching l.t.raster.grid l.t.elevations.now l.half l.work (size l.t.raster.grid) l.head l.end

abbrev pub decreases-loop-head : goal.decreases-loop-head
decreases-loop-head g l = size l.t.raster.grid - l.head

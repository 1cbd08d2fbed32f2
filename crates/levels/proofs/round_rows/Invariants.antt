use Prim.Native.Nat.{◌+◌, ◌*◌}
use Rattle.flow_laws.specs.Words.{Joining}
use Rattle.levels.proofs.round_rows.Given as goal

abbrev pub invariant-loop-row : goal.invariant-loop-row
invariant-loop-row l = Joining l.t.raster.grid l.t.elevations.now l.half l.work (l.row * l.t.raster.grid.cols + 1) l.tail

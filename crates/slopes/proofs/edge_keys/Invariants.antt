use Rattle.grid.specs.Sheet.{at}
use Rattle.cells.specs.Keys.{key_of}
use Rattle.slopes.specs.Steepest.{key_or}
use Rattle.slopes.proofs.Drops.{Gathered}
use Rattle.slopes.proofs.edge_keys.Given as goal

abbrev pub invariant-loop-p : goal.invariant-loop-p
invariant-loop-p l = Gathered l.g l.elevations l.cell (key_or (key_of (at l.elevations l.cell))) l.keys l.p

-- The first n entries are counted, up to the last pair of the batch.
use Prim.Native.Nat.{◌+◌, ◌-◌}
use lib.ListN.{length, get_or}
use Rattle.grid.specs.PourPoints.{pour_points}
use Rattle.pour_laws.specs.Columns.{Between}
use Rattle.pour_columns.proofs.count_on.Given as goal

abbrev pub invariant-loop-batch : goal.invariant-loop-batch
invariant-loop-batch l =
    Between l.sheets.g l.sheets.elevations.now l.sheets.labels.now (get_or l.batch.pairs 16383 0) l.n l.batch.count

abbrev pub decreases-loop-batch : goal.decreases-loop-batch
decreases-loop-batch l = (length (pour_points l.sheets.g l.sheets.elevations.now l.sheets.labels.now) - l.n) + l.batch.count

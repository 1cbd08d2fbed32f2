-- The first n entries stand in the columns, and the rest is as at entry.
use Prim.Native.Nat.{◌-◌}
use lib.ListN.{length}
use Rattle.grid.specs.PourPoints.{pour_points}
use Rattle.pour_laws.specs.Columns.{Between, ColumnsTo}
use Rattle.pour_columns.proofs.write_all.Given as goal

abbrev pub invariant-scans : goal.invariant-scans
invariant-scans l =
    Between l.sheets.g l.sheets.elevations.now l.sheets.labels.now l.limit l.n 16384
    × ColumnsTo (pour_points l.sheets.g l.sheets.elevations.now l.sheets.labels.now) l.n l.initial.smaller l.smaller l.initial.larger l.larger l.initial.elevation l.elevation l.initial.cell l.cell

abbrev pub decreases-scans : goal.decreases-scans
decreases-scans l = length (pour_points l.sheets.g l.sheets.elevations.now l.sheets.labels.now) - l.n

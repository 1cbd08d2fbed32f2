use Rattle.cells.specs.Marks.{Marked}
use Rattle.flow.specs.Seeding.{WordsTo, SumsIn}
use Rattle.flow.proofs.WordsRunsU32.inner_run.Given as goal

abbrev pub invariant-loop-cell : goal.invariant-loop-cell
invariant-loop-cell l =
    WordsTo l.t.raster.grid l.t.elevations.now l.cell l.work × SumsIn l.t.raster.grid l.t.elevations.now l.cell l.to l.work × Marked l.t.raster.grid l.t.elevations.now l.base l.work

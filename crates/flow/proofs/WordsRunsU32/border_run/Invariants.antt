use Rattle.cells.specs.Marks.{Marked}
use Rattle.flow.specs.Seeding.{WordsTo}
use Rattle.flow.proofs.WordsRunsU32.border_run.Given as goal

abbrev pub invariant-loop-cell : goal.invariant-loop-cell
invariant-loop-cell l = WordsTo l.self.t.now.raster.grid l.self.t.now.elevations.now l.cell l.work × Marked l.self.t.now.raster.grid l.self.t.now.elevations.now l.self.base l.work

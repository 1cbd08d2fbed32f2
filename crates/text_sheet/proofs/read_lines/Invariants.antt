-- `text_sheet::read_lines`: the lines so far are stored, and what stood past them stands.
use Rattle.text_sheet.proofs.Cells.{LinesTo}
use Rattle.text_sheet.proofs.read_lines.Given as goal

abbrev pub invariant-loop-r : goal.invariant-loop-r
invariant-loop-r l = LinesTo l.text l.g.cols l.initial.elevations l.elevations l.next.at l.r

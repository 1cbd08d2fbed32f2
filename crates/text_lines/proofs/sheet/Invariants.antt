-- `text_lines::sheet`: the lines so far are stored, and their cells known.
use Rattle.std.proofs.Common.{ℕ, ◌*◌, ◌<◌, get_or}
use Rattle.text_lines.proofs.Lines.{LinesTo}
use Rattle.text_lines.proofs.sheet.Given as goal

abbrev pub invariant-loop-r : goal.invariant-loop-r
invariant-loop-r g l =
    LinesTo l.g.cols g.T.Cell.DIGITS (λ c. g.T.Cell.number (get_or l.cells c g.T.Cell.off)) l.initial.out l.from l.out l.next l.r
    × ((c : ℕ) → c < l.r * l.g.cols → g.T.Cell.Known (get_or l.cells c g.T.Cell.off))

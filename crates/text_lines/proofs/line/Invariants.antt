-- `text_lines::line`: the cells so far are stored, and known.
use Rattle.std.proofs.Common.{ℕ, ◌<◌, get_or}
use Rattle.text_lines.proofs.Lines.{CellsTo}
use Rattle.text_lines.proofs.line.Given as goal

abbrev pub invariant-loop-cell : goal.invariant-loop-cell
invariant-loop-cell g l =
    CellsTo g.T.Cell.DIGITS (λ i. g.T.Cell.number (get_or l.row i g.T.Cell.off)) l.initial.out l.from l.out l.next l.cell-index
    × ((i : ℕ) → i < l.cell-index → g.T.Cell.Known (get_or l.row i g.T.Cell.off))

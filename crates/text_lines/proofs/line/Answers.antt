-- `text_lines::line`: the cells so far are stored, and known.
use Rattle.std.proofs.Common.{arith, ap, subst, ◌∙◌}
use Rattle.std.proofs.lemmas.List.{get_or_read}
use borrow.Author.Count.{below_none, below_more}
use Rattle.text_lines.proofs.Lines.{cells_none, cells_more, cells_end}
use Rattle.text_lines.proofs.line.Goals as goal

pub loop-cell-init : goal.loop-cell-init
loop-cell-init g c = (cells_none _ _ _ _, below_none _)

pub loop-cell-preserved : goal.loop-cell-preserved
loop-cell-preserved g c =
    let read = get_or_read c.args.row.now _ _ c.loop-cell-test.true c.cell-item.is g.T.Cell.off in (
      cells_more _ _ _ _ _ c.loop-cell.invariant.0 (c.number.ensures.value ∙ ap g.T.Cell.number read) (rw c.DIGITS.ensures at c.put_hex-next.ensures),
      below_more _ _ c.loop-cell.invariant.1 (subst g.T.Cell.Known read c.number.ensures.known),
    )

pub returns-clause-put : goal.returns-clause-put
returns-clause-put g c = cells_end _ _ _ _ (omega arith) c.loop-cell.invariant.0

-- `text_sheet::read_lines`: the lines so far are stored, and what stood past them stands.
use Rattle.std.proofs.Common.{arith}
use Rattle.text_sheet.proofs.Cells.{lines_none, lines_more, lines_end}
use Rattle.text_sheet.proofs.read_lines.Goals as goal

pub loop-r-init : goal.loop-r-init
loop-r-init c = lines_none _ _ _

pub loop-r-preserved : goal.loop-r-preserved
loop-r-preserved c =
    let line = c.read_line-next.ensures in
    lines_more _ _ _ _ _ c.args.g.rows c.loop-r-test.true (omega arith) c.loop-r.invariant line.place line.stored

pub returns : goal.returns
returns c = lines_end _ c.args.g _ c.requires.0 (omega arith) c.loop-r.invariant

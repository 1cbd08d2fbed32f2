-- `text_lines::sheet`: the lines so far are stored, and their cells known.
use Rattle.std.proofs.Common.{arith}
use native.Mathlib.Nat.{zero-mul}
use Rattle.text_laws.proofs.Digits.{sheet_lines}
use Rattle.text_lines.proofs.Lines.{lines_none, lines_more, lines_end}
use Rattle.text_lines.proofs.Rows.{row_put, row_known}
use Rattle.text_lines.proofs.sheet.Goals as goal

pub loop-r-init : goal.loop-r-init
loop-r-init g c = (lines_none _ _ _ _ _, λ i l. absurd (let z : ⊥ = omega (arith, zero-mul c.args.g.cols) in z))

pub loop-r-preserved : goal.loop-r-preserved
loop-r-preserved g c =
    let s = c.args in
    let k = g.T.Cell in
    let h = c.loop-r-test.true in
    let n = c.requires.0 in (
      lines_more _ _ _ _ _ c.loop-r.invariant.0 (row_put k.off s.cells.now s.g.cols s.g.rows c.loop-r.r h n k.number k.DIGITS c.line-next.ensures.put),
      row_known k.off s.cells.now s.g.cols s.g.rows c.loop-r.r h n k.Known c.loop-r.invariant.1 c.line-next.ensures.known,
    )

pub returns-clause-put : goal.returns-clause-put
returns-clause-put g c = rw (sheet_lines c.args.g) (lines_end _ _ _ _ _ (omega arith) c.loop-r.invariant.0)

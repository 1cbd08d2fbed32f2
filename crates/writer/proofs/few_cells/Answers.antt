-- `writer::few_cells`: with no row there is no cell; else the quotient tells.
use mathlib.Core.Path.{sym}
use Rattle.writer.proofs.Promise.{no_rows, by_quotient}
use Rattle.writer.proofs.few_cells.Goals as goal

pub returns-then-rows-eq0 : goal.returns-then-rows-eq0
returns-then-rows-eq0 c = sym (no_rows c.args.g c.if-rows-eq0.true)

pub returns : goal.returns
returns c = by_quotient c.args.g c.if-rows-eq0.false

-- `text_sheet::read_line`: all numbers of the line are stored.
use Rattle.std.proofs.Common.{◌+◌, ◌*◌, arith}
use Rattle.grid.specs.Sheet.{void}
use Rattle.grid.specs.Frames.{number4, from_twos}
use Rattle.grid_laws.proofs.Below.{is_table}
use Rattle.text_sheet.proofs.read_line.Goals as goal

pub returns-clause-stored : goal.returns-clause-stored
returns-clause-stored c =
    is_table _ (λ q. from_twos (number4 c.args.text.now (c.args.start.at + 4 * q))) _ void c.loop-elevation.auto.line
    (λ q h. c.loop-elevation.invariant.1 q (omega arith))

-- `text_sheet::read_line`: the numbers so far are stored.
use Rattle.std.proofs.Common.{◌≡◌, ℕ, ◌+◌, ◌*◌, ◌<◌}
use Rattle.grid.specs.Sheet.{at}
use Rattle.grid.specs.Frames.{number4, from_twos}
use Rattle.text_sheet.proofs.read_line.Given as goal

abbrev pub invariant-loop-elevation : goal.invariant-loop-elevation
invariant-loop-elevation l =
    (l.next.at ≡ l.initial.next.at + 4 * l.elevation-index)
    × ((q : ℕ) → q < l.elevation-index → at l.line q ≡ from_twos (number4 l.text (l.initial.next.at + 4 * q)))

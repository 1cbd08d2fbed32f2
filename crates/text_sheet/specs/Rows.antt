-- The elevations of a line of text.
use Rattle.std.specs.Prelude.{List, ℕ, ◌+◌, ◌*◌, ℤ}
use Rattle.grid.specs.Below.{table}
use Rattle.grid.specs.Frames.{number4, from_twos}

-- those of n numbers from place `from` on
abbrev pub elevations_from : List ℕ → ℕ → ℕ → List ℤ
elevations_from text from n = table n (λ q. from_twos (number4 text (from + 4 * q)))

-- The codes while they are written, cell after cell.
use Rattle.std.specs.Prelude.{◌≡◌, List, ℕ, ◌<◌, get_or, ℤ}
use Rattle.grid.specs.declared.Grid.{Grid}
use Rattle.grid.specs.Sheet.{size}
use Rattle.grid.specs.Directions.{direction_at}
use Rattle.flow_laws.specs.Words.{levels_in}

-- no cell lacks a word, so no data cell a level
abbrev pub NoneLacks : Grid → List ℕ → Type 0
NoneLacks g work = (c : ℕ) → c < size g → 0 < get_or work c 0

-- the cells before n have their codes
abbrev pub CodesTo : Grid → List ℤ → List ℕ → ℕ → List ℕ → Type 0
CodesTo g e work n codes = (c : ℕ) → c < n → get_or codes c 0 ≡ direction_at g e (levels_in g work) c

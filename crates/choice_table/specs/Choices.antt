use Rattle.std.specs.Prelude.{List, ℕ}
use Rattle.grid.specs.Below.{table}
use Rattle.grid.specs.Directions.{choice}

-- the choice for each sum of codes
unfoldable pub choices : List ℕ
choices = table 256 choice

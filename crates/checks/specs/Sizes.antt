use Rattle.std.specs.Prelude.{◌≤◌}
use Rattle.grid.specs.declared.Grid.{Grid}
use Rattle.grid.specs.Sheet.{size}

-- rows and columns from 1 to 4,000, so at most 16,000,000 cells
pub record Fits (g : Grid) : Type 0 where
  pub rows_low : 1 ≤ g.rows
  pub rows_high : g.rows ≤ 4000
  pub cols_low : 1 ≤ g.cols
  pub cols_high : g.cols ≤ 4000
  pub cells : size g ≤ 16000000

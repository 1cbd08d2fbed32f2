use Rattle.std.specs.Prelude.{◌≤◌}
use Rattle.grid.specs.declared.Grid.{Grid}

-- cell width and height from 1 to 1,000
pub record Shaped (g : Grid) : Type 0 where
  pub width_low : 1 ≤ g.width
  pub width_high : g.width ≤ 1000
  pub height_low : 1 ≤ g.height
  pub height_high : g.height ≤ 1000

-- The sheets of a call with text, and the room for what it prints.
use Rattle.std.specs.Prelude.{◌≡◌, List, ℕ, ◌*◌, ◌≤◌, ℤ, length}
use Rattle.grid.specs.declared.Grid.{Grid}
use Rattle.grid.specs.Sheet.{size}
use Rattle.checks.specs.Sizes.{Fits}

-- a sheet with every side open and square cells that passes questions 4, 5 and 6, and room for its results as text
pub record Small (g : Grid) (elevations : List ℤ) (out : List ℕ) : Type 0 where
  pub few : size g ≤ 2304
  pub fits : Fits g
  pub no_sides : g.sides ≡ 0
  pub square : (g.width ≡ 1) × (g.height ≡ 1)
  pub elevations_size : length elevations ≡ size g
  pub room : 59913 ≤ length out

-- result sheets of its size, and a work buffer that is long enough
pub record Lent (g : Grid) (filled : List ℤ) (codes counts labels work : List ℕ) : Type 0 where
  pub filled_size : length filled ≡ size g
  pub codes_size : length codes ≡ size g
  pub counts_size : length counts ≡ size g
  pub labels_size : length labels ≡ size g
  pub work_size : 4 * size g ≤ length work

-- The work buffer while ponds are numbered has the flood's words, after them the marks, and from half on the queue.
use Rattle.std.specs.Prelude.{◌≡◌, List, ℕ, ◌*◌, ◌≤◌, ◌<◌, ◌^◌, length, ℤ}
use Rattle.grid.specs.declared.Grid.{Grid}
use Rattle.grid.specs.Sheet.{size, SixteenBits}
use Rattle.grid.specs.Fill.{filled}
use Rattle.fill.specs.Words.{Words}
use Rattle.join_laws.specs.Search.{part_of}
use Rattle.pond_laws.specs.Numbered.{marks_to, ponds_to}

-- sizes as after a yes to 5 to 9
pub record Sizes (g : Grid) (e : List ℤ) (work : ℕ) : Type 0 where
  pub few : size g < 2 ^ 24
  pub narrow : g.cols < 2 ^ 24
  pub long : length e ≡ size g
  pub room : 4 * size g ≤ work

-- the ponds are numbered whose lowest cell is before c: `count` of them
pub record Numbered (g : Grid) (e : List ℤ) (w : List ℕ) (c count : ℕ) : Type 0 where
  pub range : SixteenBits e
  pub words : Words g e w
  pub marks : part_of (size g) (size g) w ≡ marks_to g e (filled g e) c
  pub counted : count ≡ ponds_to g e (filled g e) c

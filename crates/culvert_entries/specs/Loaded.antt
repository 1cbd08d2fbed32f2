-- A sheet that stands in the work buffer by its keys.
use Rattle.std.specs.Prelude.{◌≡◌, List, ℕ, ◌<◌, length, get_or, ℤ}
use Rattle.grid.specs.Sheet.{at, SixteenBits}
use Rattle.cells.specs.Keys.{key_of}

-- w begins with the keys of e, which holds elevations
pub record Loaded (e : List ℤ) (w : List ℕ) : Type 0 where
  pub keys : (c : ℕ) → c < length e → get_or w c 0 ≡ key_of (at e c)
  pub sixteen_bits : SixteenBits e

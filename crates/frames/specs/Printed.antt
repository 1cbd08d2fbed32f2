-- What a whole output leaves, and the sheets and the room that it takes.
use Rattle.std.specs.Prelude.{◌≡◌, List, ◌++◌, ℕ, ◌+◌, ◌*◌, ◌≤◌, ℤ, length, drop}
use Rattle.grid.specs.declared.Grid.{Grid}
use Rattle.grid.specs.Sheet.{size}
use Rattle.grid.specs.Frames.{text_length}

-- a whole output: `text` at the front of the buffer, its length handed back, places past it untouched
pub record Printed (text out₀ out₁ : List ℕ) (written : ℕ) : Type 0 where
  pub length_of_text : written ≡ length text
  pub stored : out₁ ≡ text ++ drop (length text) out₀

-- a sheet of elevations of g's size, and room for it as text
pub record ElevationSheet (g : Grid) (elevations : List ℤ) (out : List ℕ) : Type 0 where
  pub few_rows : g.rows ≤ 4000
  pub few_cols : g.cols ≤ 4000
  pub elevations_size : length elevations ≡ size g
  pub room : text_length g ≤ length out

-- the bytes of the header and of the four sheets: 4 + 2 + 8 + 8 digits for each cell and four line feeds for each row
abbrev pub result_length : Grid → ℕ
result_length g = 9 + g.rows * (22 * g.cols + 4)

-- four sheets of g's size, and room for them as text
pub record Sheets (g : Grid) (filled : List ℤ) (codes counts labels out : List ℕ) : Type 0 where
  pub few_rows : g.rows ≤ 4000
  pub few_cols : g.cols ≤ 4000
  pub filled_size : length filled ≡ size g
  pub codes_size : length codes ≡ size g
  pub counts_size : length counts ≡ size g
  pub labels_size : length labels ≡ size g
  pub room : result_length g ≤ length out

-- What the work buffer spells: before the flood a sheet, by its keys; after it the same sheet and the filled one, a word for each cell.
use Rattle.std.specs.Prelude.{◌≡◌, Bool, ◌&&◌, List, ℕ, ◌+◌, ◌*◌, ◌<◌, ltb, get_or, ℤ}
use Rattle.grid.specs.declared.Grid.{Grid}
use Rattle.grid.specs.Below.{table}
use Rattle.grid.specs.Sheet.{size, at, is_data}
use Rattle.grid.specs.Fill.{filled}
use Rattle.cells.specs.Keys.{key_of, level_of}

-- the sheet that the first n keys of a list spell
unfoldable pub sheet_in : ℕ → List ℕ → List ℤ
sheet_in n w = table n (λ c. level_of (get_or w c 0))

-- the sheet e has the voids of the one that keys spell: their keys are 0
abbrev pub SameVoids : Grid → List ℤ → List ℕ → Type 0
SameVoids g e w = (c : ℕ) → c < size g → is_data e c ≡ ltb 0 (get_or w c 0)

-- the flood's words: a cell's key, and 65,536 times its filled key; one formula for voids too, whose keys are 0
abbrev pub Words : Grid → List ℤ → List ℕ → Type 0
Words g s w = (c : ℕ) → c < size g → get_or w c 0 ≡ key_of (at s c) + 65536 * key_of (at (filled g s) c)

-- the flood has not come to this data cell: a key with nothing above it
unfoldable pub is_unreached : List ℕ → ℕ → Bool
is_unreached w c = ltb 0 (get_or w c 0) && ltb (get_or w c 0) 65536

-- The work buffer while the cells of level 0 get their words, cell after cell.
use Rattle.std.specs.Prelude.{◌≡◌, List, ℕ, ◌+◌, ◌≤◌, ◌<◌, length, get_or, ℤ}
use Rattle.grid.specs.declared.Grid.{Grid}
use Rattle.grid.specs.Sheet.{size}
use Rattle.cells.specs.Marks.{Marked}
use Rattle.slopes.specs.Steepest.{inner_sum}
use Rattle.flow_laws.specs.Words.{first_word}

-- the cells before n have their words
abbrev pub WordsTo : Grid → List ℤ → ℕ → List ℕ → Type 0
WordsTo g e n work = (c : ℕ) → c < n → get_or work c 0 ≡ first_word g e c

-- the cells from `from` to `to` have their sums
abbrev pub SumsIn : Grid → List ℤ → ℕ → ℕ → List ℕ → Type 0
SumsIn g e from to work = (c : ℕ) → from ≤ c → c < to → get_or work c 0 ≡ inner_sum g e c

-- the marks of voids stand past the words, from base on
pub record MarksIn (g : Grid) (e : List ℤ) (base : ℕ) (work : List ℕ) : Type 0 where
  pub after : size g ≤ base
  pub room : base + size g ≤ length work
  pub marked : Marked g e base work

-- The three columns while they are cleared and cells are added to them.
use Rattle.std.specs.Prelude.{◌≡◌, ◌⊎◌, List, ℕ, ◌+◌, ◌-◌, ◌/◌, ◌%◌, ◌≤◌, ◌<◌, ◌^◌, length, get_or, set, ℤ}
use Rattle.cells.specs.Keys.{level_of}
use Rattle.pond_laws.specs.Gathered.{Column}

-- the first `count` places of a column are 0, the others as they were
pub record Cleared (count : ℕ) (old new : List ℕ) : Type 0 where
  pub column : Column 0 count old new
  pub zero : (k : ℕ) → k < count → get_or new k 0 ≡ 0

-- a cell with this word is added to the place k of the columns
pub record Put (k word : ℕ) (level₀ level₁ : List ℤ) (cells₀ cells₁ volume₀ volume₁ : List ℕ) : Type 0 where
  pub level : level₁ ≡ set level₀ k (level_of (word / 65536))
  pub cells : cells₁ ≡ set cells₀ k (get_or cells₀ k 0 + 1)
  pub volume : volume₁ ≡ set volume₀ k (get_or volume₀ k 0 + (word / 65536 - word % 65536))

-- what a cell's mark and word make of the columns: nothing where it is in no pond
abbrev pub Added : (mark word : ℕ) (level₀ level₁ : List ℤ) (cells₀ cells₁ volume₀ volume₁ : List ℕ) → Type 0
Added mark word level₀ level₁ cells₀ cells₁ volume₀ volume₁ =
    ((mark < 2) × (level₁ ≡ level₀) × (cells₁ ≡ cells₀) × (volume₁ ≡ volume₀))
    ⊎ ((2 ≤ mark) × Put (mark - 2) word level₀ level₁ cells₀ cells₁ volume₀ volume₁)

-- there is room for one cell more at the place k of the columns, and nothing wraps
pub record HasRoom (k word : ℕ) (level : List ℤ) (cells volume : List ℕ) : Type 0 where
  pub level_in : k < length level
  pub cells_in : k < length cells
  pub volume_in : k < length volume
  pub above : word % 65536 ≤ word / 65536
  pub cells_fit : get_or cells k 0 + 1 < 2 ^ 32
  pub volume_fit : get_or volume k 0 + 65536 < 2 ^ 64

-- the columns have one length
pub record OneLength (level : List ℤ) (cells volume : List ℕ) : Type 0 where
  pub cells_long : length cells ≡ length level
  pub volume_long : length volume ≡ length level

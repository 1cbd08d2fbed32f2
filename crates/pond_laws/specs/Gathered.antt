-- The columns while they are gathered, in a scan over the numbered cells: e is the input, f the filled sheet, l the sheet of pond numbers.
use Rattle.std.specs.Prelude.{◌≡◌, cond, List, ℕ, ◌+◌, ◌≤◌, ◌<◌, eqb, length, get_or, ℤ, pos}
use Rattle.grid.specs.Below.{sum_below, count_below}
use Rattle.grid.specs.Sheet.{at}
use Rattle.grid.specs.Ponds.{depth}

-- beside the first `count` places a column is as it was
pub record Column {A : Type 0} (d : A) (count : ℕ) (old new : List A) : Type 0 where
  pub same_length : length new ≡ length old
  pub past : (j : ℕ) → count ≤ j → get_or new j d ≡ get_or old j d

-- the first c cells are gathered into the first `count` places
pub record Gathered (e f : List ℤ) (l : List ℕ) (count c : ℕ) (level₀ level : List ℤ) (cells₀ cells volume₀ volume : List ℕ) : Type 0 where
  pub level_column : Column (pos 0) count level₀ level
  pub cells_column : Column 0 count cells₀ cells
  pub volume_column : Column 0 count volume₀ volume
  pub levels : (d k : ℕ) → d < c → get_or l d 0 ≡ k + 1 → at level k ≡ at f d
  pub counts : (k : ℕ) → k < count → get_or cells k 0 ≡ count_below c (λ d. eqb (get_or l d 0) (k + 1))
  pub volumes : (k : ℕ) → k < count → get_or volume k 0 ≡ sum_below c (λ d. cond (eqb (get_or l d 0) (k + 1)) (depth e f d) 0)

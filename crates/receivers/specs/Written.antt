-- The tables by code, and the list of receivers while it is written.
use Rattle.std.specs.Prelude.{◌≡◌, Bool, true, false, cond, ◌||◌, List, ℕ, ◌+◌, ◌*◌, ◌≤◌, ◌<◌, eqb, ltb, length, get_or}
use Rattle.grid.specs.declared.Grid.{Grid}
use Rattle.grid.specs.Below.{table}
use Rattle.grid.specs.Sheet.{code_at, position_of}
use Rattle.cells.specs.Steps.{down_of, right_of}
use Rattle.route_laws.specs.Receivers.{receiver_mark}

-- 0 or one of the eight
unfoldable pub is_allowed : ℕ → Bool
is_allowed k = eqb k 0 || ltb (position_of k) 8

unfoldable pub bad_table : List ℕ
bad_table = table 256 (λ k. cond (is_allowed k) 0 1)

-- r is the first place that is not allowed, or the length
pub record FirstBad (codes : List ℕ) (r : ℕ) : Type 0 where
  pub within : r ≤ length codes
  pub below : (c : ℕ) → c < r → is_allowed (get_or codes c 0) ≡ true
  pub at : r < length codes → is_allowed (get_or codes r 0) ≡ false

-- each code has the offset of its position
pub record ReachTable (cols : ℕ) (reach : List ℕ) : Type 0 where
  pub long : length reach ≡ 256
  pub at : (p : ℕ) → p < 8 → get_or reach (code_at p) 0 ≡ down_of p * cols + right_of p

-- the first i receivers stand at the front, and every other place is as at entry
pub record WrittenTo (g : Grid) (codes : List ℕ) (i : ℕ) (t₀ t : List ℕ) : Type 0 where
  pub same_length : length t ≡ length t₀
  pub written : (c : ℕ) → c < i → get_or t c 0 ≡ receiver_mark g codes c
  pub after : (k : ℕ) → i ≤ k → get_or t k 0 ≡ get_or t₀ k 0

-- the receivers of the first k cells of a row stand in their places, and every other place is as at entry
pub record RowWritten (g : Grid) (codes : List ℕ) (row k : ℕ) (t₀ t : List ℕ) : Type 0 where
  pub same_length : length t ≡ length t₀
  pub before : (c : ℕ) → c < row * g.cols → get_or t c 0 ≡ get_or t₀ c 0
  pub written : (c : ℕ) → row * g.cols ≤ c → c < row * g.cols + k → get_or t c 0 ≡ receiver_mark g codes c
  pub after : (c : ℕ) → row * g.cols + k ≤ c → get_or t c 0 ≡ get_or t₀ c 0

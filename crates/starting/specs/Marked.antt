-- Table 5 by the marks at the front of a tail: no subtraction, and no code is looked at.
use Rattle.std.specs.Prelude.{◌≡◌, Bool, cond, ◌&&◌, List, ℕ, ◌+◌, ◌<◌, ltb, length, get_or}
use Rattle.grid.specs.Below.{count_below}
use Rattle.accumulation.specs.Tail.{mark_at}

-- the cell flows on, and its count and its delta are above the threshold
unfoldable pub start_by : ℕ → List ℕ → List ℕ → ℕ → ℕ → Bool
start_by n t counts threshold c =
    ltb (mark_at t c) n && (ltb threshold (get_or counts c 0) && ltb (get_or counts c 0 + threshold) (get_or counts (mark_at t c) 0))

-- the number of a start, by how many come before it; 0 for other cells
unfoldable pub start_number : ℕ → List ℕ → List ℕ → ℕ → ℕ → ℕ
start_number n t counts threshold c = cond (start_by n t counts threshold c) (count_below c (start_by n t counts threshold) + 1) 0

-- the cells below i are numbered; `found` of them are starts
pub record NumberedTo (n i : ℕ) (t counts : List ℕ) (threshold found : ℕ) (starts₀ starts : List ℕ) : Type 0 where
  pub same_length : length starts ≡ length starts₀
  pub tallied : found ≡ count_below i (start_by n t counts threshold)
  pub numbered : (k : ℕ) → k < i → get_or starts k 0 ≡ start_number n t counts threshold k

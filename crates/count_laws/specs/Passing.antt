-- The pass that hands counts down. Each cell has a word: the number of cells that flow into it and are still to come, times 16,777,216,
-- and its count so far. A cell that has handed its count on is done: its word has 255 above.
use Rattle.std.specs.Prelude.{◌≡◌, Bool, true, false, not, cond, ◌&&◌, ℕ, ◌+◌, ◌*◌, ◌/◌, ◌%◌, ◌≤◌, ◌<◌, eqb, leb}
use Rattle.grid.specs.Below.{sum_below, count_below}

-- the donors of a cell that are still to come, and its count so far
unfoldable pub awaited : ℕ → ℕ
awaited x = x / 16777216

unfoldable pub tally : ℕ → ℕ
tally x = x % 16777216

unfoldable pub is_done : ℕ → Bool
is_done x = leb 4278190080 x

-- how many cells are not done
unfoldable pub undone : ℕ → (ℕ → ℕ) → ℕ
undone n word = count_below n (λ c. not (is_done (word c)))

pub record Passing (n : ℕ) (mark word : ℕ → ℕ) : Type 0 where
  -- of a cell that is not done, the donors that are not done are those to come
  pub to_come : (c : ℕ) → c < n → is_done (word c) ≡ false → awaited (word c) ≡ count_below n (λ d. eqb (mark d) c && not (is_done (word d)))
  -- the count so far is the sum over the donors that are done
  pub so_far : (c : ℕ) → c < n → tally (word c) ≡ sum_below n (λ d. cond (eqb (mark d) c && is_done (word d)) (tally (word d) + 1) 0)
  -- a cell is done after its donors
  pub donors_done : (c d : ℕ) → c < n → d < n → mark d ≡ c → is_done (word c) ≡ true → is_done (word d) ≡ true
  -- what is still to be handed on: no more than the cells
  pub room : sum_below n (λ c. cond (is_done (word c)) 0 (tally (word c) + 1)) ≤ n

-- no cell has more than eight donors
abbrev pub FewDonors : ℕ → (ℕ → ℕ) → Type 0
FewDonors n mark = (c : ℕ) → c < n → count_below n (λ d. eqb (mark d) c) ≤ 8

-- the donors among the cells below i are counted
abbrev pub DonorsTo : ℕ → (ℕ → ℕ) → ℕ → (ℕ → ℕ) → Type 0
DonorsTo n mark i word = (c : ℕ) → c < n → word c ≡ count_below i (λ d. eqb (mark d) c) * 16777216

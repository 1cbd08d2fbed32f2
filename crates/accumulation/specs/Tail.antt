-- The tail of the work buffer: n marks, then n words, the rest free.
use Rattle.std.specs.Prelude.{◌≡◌, ◌⊎◌, cond, List, ℕ, ◌+◌, ◌-◌, ◌≤◌, ◌<◌, ltb, length, get_or, take, set}
use Rattle.route_laws.specs.Ends.{first_unending}
use Rattle.route_laws.specs.Walking.{live_at, next_at}
use Rattle.count_laws.specs.Inflow.{route_count}
use Rattle.count_laws.specs.Passing.{undone, tally, Passing}

abbrev pub mark_at : List ℕ → ℕ → ℕ
mark_at t c = get_or t c 0

abbrev pub word_at : ℕ → List ℕ → ℕ → ℕ
word_at n t c = get_or t (n + c) 0

-- the tail is long enough, and n small enough for the words
pub record Roomy (n : ℕ) (t : List ℕ) : Type 0 where
  pub long : n + n ≤ length t
  pub small : n < 16777216

-- nothing but the words has changed
pub record Kept (n : ℕ) (t₀ t₁ : List ℕ) : Type 0 where
  pub same_length : length t₁ ≡ length t₀
  pub same_marks : take n t₁ ≡ take n t₀

-- one donor counted: that of cell d
unfoldable pub donor_added : ℕ → List ℕ → ℕ → List ℕ
donor_added n t d = cond (ltb (mark_at t d) n) (set t (n + mark_at t d) (word_at n t (mark_at t d) + 16777216)) t

-- the cell c is closed, and hands its count and 1 to the cell that it flows into
unfoldable pub closed : ℕ → List ℕ → ℕ → List ℕ
closed n t c = set t (n + c) (word_at n t c + 4278190080)

abbrev pub handed_word : ℕ → List ℕ → ℕ → ℕ
handed_word n t c = word_at n t (mark_at t c) - 16777216 + word_at n t c + 1

unfoldable pub passed : ℕ → List ℕ → ℕ → List ℕ
passed n t c = cond (ltb (mark_at t c) n) (set (closed n t c) (n + mark_at t c) (handed_word n t c)) (closed n t c)

-- the cell to go on with: the receiver, if nothing more is awaited there, or n
unfoldable pub onward : ℕ → List ℕ → ℕ → ℕ
onward n t c = cond (ltb (mark_at t c) n) (cond (ltb (handed_word n t c) 16777216) (mark_at t c) n) n

-- the cell c can be closed: nothing is awaited there, and its receiver waits for it
pub record Ready (n : ℕ) (t : List ℕ) (c : ℕ) : Type 0 where
  pub on : c < n
  pub none_awaited : word_at n t c < 16777216
  pub other : mark_at t c < n → mark_at t c ≡ c → ⊥
  pub awaits : mark_at t c < n → 16777216 ≤ word_at n t (mark_at t c)
  pub waits : mark_at t c < n → word_at n t (mark_at t c) < 4278190080

-- what stands between two cells of the pass: `left` cells are not done
pub record Between (n : ℕ) (t₀ t : List ℕ) (left : ℕ) : Type 0 where
  pub kept : Kept n t₀ t
  pub passing : Passing n (mark_at t₀) (word_at n t)
  pub counted : left ≡ undone n (word_at n t)

-- cells are done, or wait
abbrev pub Settled : ℕ → ℕ → List ℕ → Type 0
Settled n i t = (k : ℕ) → k < i → 16777216 ≤ word_at n t k

-- a walk down from `start`: what was settled stays so, and `start` is settled
pub record Down (n start : ℕ) (t₀ t : List ℕ) (left : ℕ) : Type 0 where
  pub between : Between n t₀ t left
  pub settled : (k : ℕ) → k < n → (k ≡ start) ⊎ (16777216 ≤ word_at n t₀ k) → 16777216 ≤ word_at n t k

-- the same within the walk, with the cell c in hand, or n
pub record Going (n start : ℕ) (t₀ t : List ℕ) (c left : ℕ) : Type 0 where
  pub between : Between n t₀ t left
  pub settled : (k : ℕ) → k < n → (k ≡ c → ⊥) → (k ≡ start) ⊎ (16777216 ≤ word_at n t₀ k) → 16777216 ≤ word_at n t k
  pub in_hand : c < n → word_at n t c < 16777216

-- the whole pass
pub record Accumulated (n : ℕ) (t₀ t₁ : List ℕ) (left : ℕ) : Type 0 where
  pub between : Between n t₀ t₁ left
  pub settled : Settled n n t₁

-- the routes of the marks at entry: r is the first cell whose route does not end, or n; then the marks stand, and each word has its cell's
-- count
pub record Counted (n : ℕ) (t₀ t₁ : List ℕ) (r : ℕ) : Type 0 where
  pub first : r ≡ first_unending (live_at n t₀) (next_at n t₀) n
  pub same_marks : r ≡ n → take n t₁ ≡ take n t₀
  pub counts : r ≡ n → (c : ℕ) → c < n → tally (word_at n t₁ c) ≡ route_count (live_at n t₀) (next_at n t₀) n c

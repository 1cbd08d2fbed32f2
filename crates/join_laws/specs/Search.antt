-- A search that joins cells, over two parts of a work buffer: l, the mark of each cell, 1 in the set and `value` joined, any other not in
-- the set; and q, the queue of the cells that are joined.
use Rattle.std.specs.Prelude.{◌≡◌, Bool, false, cond, ◌||◌, ◌⊎◌, List, ℕ, ◌+◌, ◌≤◌, ◌<◌, ◌^◌, eqb, get_or, set}
use Rattle.grid.specs.declared.Grid.{Grid}
use Rattle.grid.specs.Below.{table, count_below}
use Rattle.grid.specs.Sheet.{size, neighbour}
use Rattle.grid.specs.Joined.{joined}

-- the n places of a work buffer from a place on
unfoldable pub part_of : ℕ → ℕ → List ℕ → List ℕ
part_of n start w = table n (λ i. get_or w (start + i) 0)

-- the two parts of n places lie in a work buffer of this length, and apart
pub record Parts (n base half length : ℕ) : Type 0 where
  pub few : n < 2 ^ 24
  pub marks_in : base + n ≤ length
  pub queue_in : half + n ≤ length
  pub apart : (c i : ℕ) → c < n → i < n → base + c ≡ half + i → ⊥

-- a cell of the set, and one of those that are joined
unfoldable pub in_set : ℕ → List ℕ → ℕ → Bool
in_set value l c = eqb (get_or l c 0) 1 || eqb (get_or l c 0) value

unfoldable pub is_joined : ℕ → List ℕ → ℕ → Bool
is_joined value l c = eqb (get_or l c 0) value

-- what a search makes of the marks: each cell that cells of the set join to a cell of mark `value` gets that mark
unfoldable pub joined_marks : Grid → ℕ → List ℕ → List ℕ
joined_marks g value l =
    let j : List Bool = joined g (in_set value l) (is_joined value l) in
    table (size g) (λ c. cond (get_or j c false) value (get_or l c 0))

-- the first len of the queue are the joined cells, and those before head have been spread: no cell of mark 1 is beside them
pub record Searching (g : Grid) (value : ℕ) (l q : List ℕ) (head len : ℕ) : Type 0 where
  pub queued : (i : ℕ) → i < len → (get_or q i 0 < size g) × (get_or l (get_or q i 0) 0 ≡ value)
  pub placed : (c : ℕ) → c < size g → get_or l c 0 ≡ value → (i : ℕ) × (i < len) × (get_or q i 0 ≡ c)
  pub spread : (i p : ℕ) → i < head → p < 8 → get_or l (neighbour g (get_or q i 0) p) 0 ≡ 1 → ⊥
  pub count : len ≡ count_below (size g) (is_joined value l)
  pub order : head ≤ len

-- while the steps from x, the queue's cell at head, are taken: no mark 1 at the positions before p
pub record Spreading (g : Grid) (value : ℕ) (l q : List ℕ) (head len x p : ℕ) : Type 0 where
  pub searching : Searching g value l q head len
  pub more : head < len
  pub here : get_or q head 0 ≡ x
  pub done : (k : ℕ) → k < p → get_or l (neighbour g x k) 0 ≡ 1 → ⊥

-- from the work buffer w₀ to w the search goes on: it will come to the same marks, and what is in neither part is as it was
pub record GoesOn (g : Grid) (base half value : ℕ) (w₀ w : List ℕ) : Type 0 where
  pub same : joined_marks g value (part_of (size g) base w) ≡ joined_marks g value (part_of (size g) base w₀)
  pub kept : (x : ℕ) → ((i : ℕ) → i < size g → x ≡ base + i → ⊥) → ((i : ℕ) → i < size g → x ≡ half + i → ⊥) → get_or w x 0 ≡ get_or w₀ x 0

-- what a touch of the cell m makes of the work buffer and of the queue's length
abbrev pub Touched : (n base half value : ℕ) → List ℕ → List ℕ → (len m r : ℕ) → Type 0
Touched n base half value w w' len m r =
    ((r ≡ len) × (w' ≡ w) × (m < n → get_or w (base + m) 0 ≡ 1 → ⊥))
    ⊎ ((r ≡ len + 1) × (w' ≡ set (set w (base + m) value) (half + len) m) × (m < n) × (get_or w (base + m) 0 ≡ 1))

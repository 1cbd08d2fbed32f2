-- The state of a flood, over two lists: f, with the keys of the cells, the cells in order of key, and the marks of voids, which stay; and
-- b, with the queue of the reached cells and then the level of each cell, its filled key, 0 where it is not reached.
use Rattle.std.specs.Prelude.{◌≡◌, true, cond, ◌⊎◌, List, ℕ, zero, suc, ◌+◌, ◌≤◌, ◌<◌, length, get_or, set, ltb}
use Rattle.grid.specs.declared.Grid.{Grid}
use Rattle.grid.specs.Sheet.{size, neighbour, Touch}
use Rattle.grid.specs.Outlet.{is_open}
use Rattle.key_sort.specs.Order.{Ahead}

-- how many of level 0 .. level (n - 1) are not 0
unfoldable pub marked : ℕ → (ℕ → ℕ) → ℕ
marked zero level = 0
marked (suc n) level = cond (ltb 0 (level n)) 1 0 + marked n level

-- the invariant, with no geometry: the first len of the queue are reached, those from head on are still to be spread, at the level v
pub record Flood (size : ℕ) (Cell Out : ℕ → Type 0) (Next : ℕ → ℕ → Type 0) (Later : ℕ → Type 0) (key queue level : ℕ → ℕ)
    (v head len : ℕ) : Type 0 where
  pub queued : (i : ℕ) → i < len → Cell (queue i) × (0 < level (queue i))
  pub placed : (c : ℕ) → c < size → 0 < level c → (i : ℕ) × (i < len) × (queue i ≡ c)
  pub under : (c : ℕ) → c < size → 0 < level c → (key c ≤ level c) × (level c ≤ v)
  pub front : (i : ℕ) → i < len → head ≤ i → level (queue i) ≡ v
  pub parents : (i : ℕ) → i < len → Out (queue i) ⊎ ((j : ℕ) × (j < i) × Next (queue i) (queue j) × (level (queue j) ≤ level (queue i)))
  pub outs : (c : ℕ) → Out c → 0 < level c → level c ≡ key c
  pub outs_later : (c : ℕ) → Out c → level c ≡ 0 → Later c
  pub spread : (i m : ℕ) → i < head → Next (queue i) m → (0 < level m) ⊎ Later m
  pub flat : (c m : ℕ) → Next c m → 0 < level c → 0 < level m → (level c ≤ key c) ⊎ (level c ≤ level m)
  pub count : len ≡ marked size level
  pub order : head ≤ len

-- c is a data cell, by its key
abbrev pub CellOf : ℕ → List ℕ → ℕ → Type 0
CellOf n f c = (c < n) × (0 < get_or f c 0)

-- m is a data neighbour of the data cell c
abbrev pub NextTo : Grid → List ℕ → ℕ → ℕ → Type 0
NextTo g f c m = CellOf (size g) f c × CellOf (size g) f m × Touch g c m

-- a step at position p that leads to m leaves: off the sheet through an open side, or to a void that is marked as outside. The one place
-- here that knows the rule
abbrev pub LeavesTo : Grid → List ℕ → ℕ → ℕ → Type 0
LeavesTo g f p m =
    ((m ≡ size g) × (is_open g p ≡ true)) ⊎ ((m < size g) × (get_or f m 0 ≡ 0) × (get_or f (size g + size g + m) 0 ≡ 2))

-- the step from c at position p leaves
abbrev pub LeavesOf : Grid → List ℕ → ℕ → ℕ → Type 0
LeavesOf g f c p = LeavesTo g f p (neighbour g c p)

-- c is an outlet, by its own key and its neighbours': a data cell with a step that leaves
abbrev pub OutletOf : Grid → List ℕ → ℕ → Type 0
OutletOf g f c = CellOf (size g) f c × ((p : ℕ) × (p < 8) × LeavesOf g f c p)

abbrev pub FloodOf : Grid → List ℕ → List ℕ → (k v head len : ℕ) → Type 0
FloodOf g f b k v head len =
    Flood (size g) (CellOf (size g) f) (OutletOf g f) (NextTo g f) (Ahead (size g) f k) (λ c. get_or f c 0) (λ i. get_or b i 0)
    (λ c. get_or b (size g + c) 0) v head len

-- between two cells of the order
pub record Between (g : Grid) (f b : List ℕ) (k len : ℕ) : Type 0 where
  pub v : ℕ
  pub flood : FloodOf g f b k v len len
  pub low : (m : ℕ) → Ahead (size g) f k m → v ≤ get_or f m 0

-- while the cells that are reached at the level v are spread
pub record During (g : Grid) (f b : List ℕ) (k v head len : ℕ) : Type 0 where
  pub flood : FloodOf g f b k v head len
  pub low : (m : ℕ) → Ahead (size g) f k m → v ≤ get_or f m 0
  pub high : (m : ℕ) → CellOf (size g) f m → v < get_or f m 0 → Ahead (size g) f k m
  pub some : 0 < v
  pub here : 0 < get_or b (size g + get_or f (size g + k) 0) 0

-- m is reached, or is still ahead, or is no data cell
abbrev pub Settled : ℕ → List ℕ → List ℕ → ℕ → ℕ → Type 0
Settled n f b k m = CellOf n f m → (0 < get_or b (n + m) 0) ⊎ Ahead n f k m

-- while the steps from x, the queue's cell at head, are taken: what stands at the positions before p is settled
pub record Spread (g : Grid) (f b : List ℕ) (k v head len x p : ℕ) : Type 0 where
  pub during : During g f b k v head len
  pub more : head < len
  pub first : get_or b head 0 ≡ x
  pub room : size g + size g ≤ length b
  pub done : (q : ℕ) → q < p → Settled (size g) f b k (neighbour g x q)

-- m is to be reached at the level v
abbrev pub Wanted : ℕ → List ℕ → List ℕ → ℕ → ℕ → Type 0
Wanted n f b v m = CellOf n f m × (get_or f m 0 ≤ v) × (get_or b (n + m) 0 ≡ 0)

-- what a touch of the cell m makes of b and of the queue's length
abbrev pub Touched : ℕ → List ℕ → List ℕ → List ℕ → (v len m r : ℕ) → Type 0
Touched n f b b' v len m r =
    ((r ≡ len) × (b' ≡ b) × (CellOf n f m → (0 < get_or b (n + m) 0) ⊎ (v < get_or f m 0)))
    ⊎ ((r ≡ len + 1) × (b' ≡ set (set b (n + m) v) len m) × Wanted n f b v m)

-- the queue has room for each cell that is not reached
abbrev pub Room : ℕ → List ℕ → ℕ → Type 0
Room n b len = (m : ℕ) → m < n → get_or b (n + m) 0 ≡ 0 → len < n

-- every reached cell is a data cell
abbrev pub ReachedAreData : ℕ → List ℕ → List ℕ → Type 0
ReachedAreData n f b = (m : ℕ) → m < n → 0 < get_or b (n + m) 0 → 0 < get_or f m 0

-- m, a cell of the sheet, is a void that is marked as outside, or is reached
abbrev pub OutsideOrReached : ℕ → List ℕ → List ℕ → ℕ → Type 0
OutsideOrReached n f b m = ((get_or f m 0 ≡ 0) × (get_or f (n + n + m) 0 ≡ 2)) ⊎ (0 < get_or b (n + m) 0)

-- a step at position p that leads to m is a reason to reach the cell that it starts from: it leaves, or m is reached
abbrev pub Opens : Grid → List ℕ → List ℕ → ℕ → ℕ → Type 0
Opens g f b p m = LeavesTo g f p m ⊎ ((m < size g) × (0 < get_or b (size g + m) 0))

-- c is an outlet or beside a reached cell
abbrev pub Opening : Grid → List ℕ → List ℕ → ℕ → Type 0
Opening g f b c = OutletOf g f c ⊎ ((m : ℕ) × NextTo g f c m × (0 < get_or b (size g + m) 0))

-- The marks of voids while those on open sides are sought, and the cells of a side.
use Rattle.std.specs.Prelude.{◌≡◌, true, ◌⊎◌, List, ℕ, ◌+◌, ◌*◌, ◌<◌, get_or}
use Rattle.grid.specs.declared.Grid.{Grid}
use Rattle.grid.specs.Sheet.{size, neighbour}
use Rattle.grid.specs.Outlet.{on_open_side}
use Rattle.join_laws.specs.Search.{part_of, Searching}

-- In the work buffer w, which was w₀: of the cells of mark 1 some have got 2, on open sides alone, and those of mark 2 are queued; what
-- lies before the queue stays
pub record SeedsOn (g : Grid) (base half : ℕ) (w₀ w : List ℕ) (len : ℕ) : Type 0 where
  pub searching : Searching g 2 (part_of (size g) base w) (part_of (size g) half w) 0 len
  pub on_open : (c : ℕ) → c < size g → get_or w (base + c) 0 ≡ 2 → on_open_side g c ≡ true
  pub marks : (c : ℕ) → c < size g → (get_or w (base + c) 0 ≡ get_or w₀ (base + c) 0)
      ⊎ ((get_or w₀ (base + c) 0 ≡ 1) × (get_or w (base + c) 0 ≡ 2))
  pub front : (i : ℕ) → i < half → get_or w i 0 ≡ get_or w₀ i 0

-- the cells of a side, from which the step at position p leads off the sheet: count of them from start on, stride apart
pub record Side (g : Grid) (p start stride count : ℕ) : Type 0 where
  pub there : (i : ℕ) → i < count → (start + i * stride < size g) × (neighbour g (start + i * stride) p ≡ size g)
  pub all : (c : ℕ) → c < size g → neighbour g c p ≡ size g → (i : ℕ) × (i < count) × (start + i * stride ≡ c)

-- The codes of the largest weighted drop from the keys around a cell.
use Rattle.std.specs.Prelude.{◌≡◌, Bool, not, cond, ◌&&◌, ◌||◌, List, ℕ, ◌+◌, ◌-◌, ◌*◌, ◌%◌, ◌≤◌, ◌<◌, min, eqb, ltb, leb, get_or, ℤ}
use Rattle.grid.specs.declared.Grid.{Grid}
use Rattle.grid.specs.Below.{table, any_below, sum_below}
use Rattle.grid.specs.Sheet.{size, at, is_data, neighbour, code_at}
use Rattle.grid.specs.Directions.{steepest_sum}
use Rattle.cells.specs.Keys.{key_of}

-- the keys around a cell, by position
unfoldable pub keys_of : Grid → List ℤ → ℕ → List ℕ
keys_of g e c = table 8 (λ p. key_of (at e (neighbour g c p)))

-- the same, but the cell's own key where no data lies: there is no drop there
unfoldable pub key_or : ℕ → ℕ → ℕ
key_or own k = cond (eqb k 0) own k

unfoldable pub edge_keys : Grid → List ℤ → ℕ → List ℕ
edge_keys g e c = table 8 (λ p. key_or (key_of (at e c)) (key_of (at e (neighbour g c p))))

-- the squares of the distances around a cell of squared width w and squared height h, as `squared_distance` has them for a sheet
abbrev pub distance_of : (w h : ℕ) → ℕ → ℕ
distance_of w h p = cond (eqb (p % 2) 0) (w + h) (cond (eqb (p % 4) 1) w h)

-- the square of the drop at a position, 0 where there is none: a cell's key is own, and the keys around it are l
abbrev pub square_at : ℕ → List ℕ → ℕ → ℕ
square_at own l q = (own - get_or l q 0) * (own - get_or l q 0)

-- there is a drop at q, and none of the eight is larger, at squared distances D
unfoldable pub unbeaten : (ℕ → ℕ) → ℕ → List ℕ → ℕ → Bool
unbeaten D own l q = ltb (get_or l q 0) own && not (any_below 8 (λ r. ltb (square_at own l q * D r) (square_at own l r * D q)))

-- the sum of the codes of the largest drop
unfoldable pub steepest_in : (w h own : ℕ) → List ℕ → ℕ
steepest_in w h own l = sum_below 8 (λ q. cond (unbeaten (distance_of w h) own l q) (code_at q) 0)

-- the same, but 256 where the cell or one around it is void
unfoldable pub any_void : ℕ → List ℕ → Bool
any_void own l = eqb own 0 || any_below 8 (λ q. eqb (get_or l q 0) 0)

unfoldable pub marked_in : (w h own : ℕ) → List ℕ → ℕ
marked_in w h own l = cond (any_void own l) 256 (steepest_in w h own l)

-- the cell or one around it holds no data
unfoldable pub near_void : Grid → List ℤ → ℕ → Bool
near_void g e c = not (is_data e c) || any_below 8 (λ p. not (is_data e (neighbour g c p)))

-- the sum of a cell, or 256 near a void, where the rule of outlets is asked for
unfoldable pub inner_sum : Grid → List ℤ → ℕ → ℕ
inner_sum g e c = cond (near_void g e c) 256 (steepest_sum g e c)

-- the cells from `from` to `to` have their sums in the work buffer, and those before them, and what is past the cells, what they had
pub record SumsTo (g : Grid) (e : List ℤ) (from to : ℕ) (work₀ work : List ℕ) : Type 0 where
  pub sums : (c : ℕ) → from ≤ c → c < to → get_or work c 0 ≡ inner_sum g e c
  pub before : (c : ℕ) → c < from → get_or work c 0 ≡ get_or work₀ c 0
  pub beyond : (i : ℕ) → size g ≤ i → get_or work i 0 ≡ get_or work₀ i 0

-- ---- worked out by classes of equally far positions: a class's lowest key has its largest drop
abbrev pub lowest_of : ℕ → ℕ → ℕ → ℕ → ℕ
lowest_of a b c d = min (min a b) (min c d)

-- which of two and of four keys are low, as codes of corners
abbrev pub pair_of : (low a b : ℕ) → ℕ
pair_of low a b = cond (eqb a low) 1 0 + cond (eqb b low) 16 0

abbrev pub members_of : (low a b c d : ℕ) → ℕ
members_of low a b c d = cond (eqb a low) 1 0 + cond (eqb b low) 4 0 + cond (eqb c low) 16 0 + cond (eqb d low) 64 0

-- of the keys around a cell, the lowest of the sides, of east and west, of north and south, and of the corners
abbrev pub low_side : List ℕ → ℕ
low_side l = lowest_of (get_or l 1 0) (get_or l 3 0) (get_or l 5 0) (get_or l 7 0)

abbrev pub low_across : List ℕ → ℕ
low_across l = min (get_or l 1 0) (get_or l 5 0)

abbrev pub low_along : List ℕ → ℕ
low_along l = min (get_or l 3 0) (get_or l 7 0)

abbrev pub low_corner : List ℕ → ℕ
low_corner l = lowest_of (get_or l 0 0) (get_or l 2 0) (get_or l 4 0) (get_or l 6 0)

-- the codes of those whose key is low
abbrev pub side_codes : List ℕ → ℕ → ℕ
side_codes l low = 2 * members_of low (get_or l 1 0) (get_or l 3 0) (get_or l 5 0) (get_or l 7 0)

abbrev pub across_codes : List ℕ → ℕ → ℕ
across_codes l low = 2 * pair_of low (get_or l 1 0) (get_or l 5 0)

abbrev pub along_codes : List ℕ → ℕ → ℕ
along_codes l low = 8 * pair_of low (get_or l 3 0) (get_or l 7 0)

abbrev pub corner_codes : List ℕ → ℕ → ℕ
corner_codes l low = members_of low (get_or l 0 0) (get_or l 2 0) (get_or l 4 0) (get_or l 6 0)

-- a drop is above 0, and its product is not below another's; the same for two others
abbrev pub leads_of : (drop own other : ℕ) → Bool
leads_of drop own other = ltb 0 drop && leb other own

abbrev pub leads_both_of : (drop own other again third : ℕ) → Bool
leads_both_of drop own other again third = leads_of drop own other && leb third again

-- square cells: the codes of the larger of the drops a, at sides, and b, at corners
unfoldable pub larger_of : (a sides b corners : ℕ) → ℕ
larger_of a sides b corners =
    cond (leads_of a (a * a * 2) (b * b * 1)) sides 0 + cond (leads_of b (b * b * 1) (a * a * 2)) corners 0

-- cells of any shape: of the drops a, at east and west, b, at north and south, and c, at corners, at the squared distances w, h and d
unfoldable pub largest_of : (w h d a across b along c corners : ℕ) → ℕ
largest_of w h d a across b along c corners =
    cond (leads_both_of a (a * a * d) (c * c * w) (a * a * h) (b * b * w)) across 0
    + cond (leads_both_of b (b * b * d) (c * c * h) (b * b * w) (a * a * h)) along 0
    + cond (leads_both_of c (c * c * w) (a * a * d) (c * c * h) (b * b * d)) corners 0

-- "list the ponds": standing water, between the input e and the filled sheet f.
use Rattle.std.specs.Prelude.{Bool, false, cond, ◌&&◌, List, ℕ, ◌+◌, eqb, get_or, ℤ, pos, negsuc, ◌-ℤ◌}
use Rattle.std.specs.Int.Signed.{lt_z}
use Rattle.grid.specs.declared.Grid.{Grid}
use Rattle.grid.specs.Below.{table, sum_below, count_below, first_below}
use Rattle.grid.specs.Sheet.{size, at, is_data}
use Rattle.grid.specs.Fill.{filled}
use Rattle.grid.specs.Joined.{joined}

-- a wet cell: of the "data cells .. whose filled elevation is above the input"
unfoldable pub is_wet : List ℤ → List ℤ → ℕ → Bool
is_wet e f c = is_data e c && lt_z (at e c) (at f c)

-- the pond of c, as a test of each cell: "a group of data cells, joined as neighbours, .. that has no further such cell beside it"
unfoldable pub pond_of : Grid → List ℤ → List ℤ → ℕ → List Bool
pond_of g e f c = joined g (is_wet e f) (eqb c)

-- "each pond's lowest cell number", for the pond of c; size where c is in none
unfoldable pub lowest_cell : Grid → List ℤ → List ℤ → ℕ → ℕ
lowest_cell g e f c = let l : List Bool = pond_of g e f c in first_below (size g) (λ d. get_or l d false)

unfoldable pub is_lowest : Grid → List ℤ → List ℤ → ℕ → Bool
is_lowest g e f c = eqb (lowest_cell g e f c) c

-- "a sheet of pond numbers, 0 elsewhere, counted from 1 by each pond's lowest cell number"
unfoldable pub ponds : Grid → List ℤ → List ℕ
ponds g e =
    let f : List ℤ = filled g e in
    table (size g) (λ c. cond (is_wet e f c) (count_below (lowest_cell g e f c) (is_lowest g e f) + 1) 0)

-- "The number of ponds is reported"
unfoldable pub pond_count : Grid → List ℤ → ℕ
pond_count g e = count_below (size g) (is_lowest g e (filled g e))

-- "filled minus input"; a negative number would give 0, but `PondsPromise` shows that there is none
unfoldable pub natural : ℤ → ℕ
natural (pos n) = n
natural (negsuc n) = 0

unfoldable pub depth : List ℤ → List ℤ → ℕ → ℕ
depth e f c = natural (at f c -ℤ at e c)

-- "Three columns of one length hold filled elevation, cell count and volume": those of the pond with the number k + 1, where l is the
-- sheet of pond numbers
unfoldable pub pond_level : Grid → List ℤ → List ℕ → ℕ → ℤ
pond_level g f l k = at f (first_below (size g) (λ c. eqb (get_or l c 0) (k + 1)))

unfoldable pub pond_cells : Grid → List ℕ → ℕ → ℕ
pond_cells g l k = count_below (size g) (λ c. eqb (get_or l c 0) (k + 1))

-- "the volume a 64-bit sum of filled minus input"
unfoldable pub pond_volume : Grid → List ℤ → List ℤ → List ℕ → ℕ → ℕ
pond_volume g e f l k = sum_below (size g) (λ c. cond (eqb (get_or l c 0) (k + 1)) (depth e f c) 0)

-- "open a culvert under a road bank" and "all culverts of a road": "a list of cells and levels at once". It comes as two lists of one
-- length: entry k is the cell and the level that stand at their place k.
use Rattle.std.specs.Prelude.{Bool, not, cond, ◌&&◌, List, ℕ, zero, suc, eqb, length, get_or, ℤ}
use Rattle.std.specs.Int.Signed.{le_z}
use Rattle.grid.specs.Below.{table, first_below}
use Rattle.grid.specs.Sheet.{void, top, at, eq_z, lower, is_data}

-- the elevation of a cell with the first k entries opened: "the sheet with that cell at that level", "and a cell named twice has the lower
-- of its levels". No level of an accepted list is above the cell's elevation, so that the lower of the two is the level. Lists of two
-- lengths are refused; a level that is not there reads as `top`
unfoldable pub opened_to : List ℤ → List ℕ → List ℤ → ℕ → ℕ → ℤ
opened_to e cells levels zero c = at e c
opened_to e cells levels (suc k) c =
    let z : ℤ = opened_to e cells levels k c in
    cond (eqb (get_or cells k 0) c) (lower z (get_or levels k top)) z

-- the opened sheet: "The list is judged as a single opened sheet"
unfoldable pub opened : List ℤ → List ℕ → List ℤ → List ℤ
opened e cells levels = table (length e) (opened_to e cells levels (length cells))

-- a level that a culvert at the cell may have: not "−32,768 or above the cell's elevation", which is that of the sheet handed in, whatever
-- other entries name the cell
unfoldable pub is_level_for : List ℤ → ℕ → ℤ → Bool
is_level_for e cell level = not (eq_z level void) && le_z level (at e cell)

-- an entry that is refused: 15 or 16
unfoldable pub is_bad_entry : List ℤ → List ℕ → List ℤ → ℕ → Bool
is_bad_entry e cells levels k = not (is_data e (get_or cells k 0) && is_level_for e (get_or cells k 0) (get_or levels k top))

-- "the first bad entry", or the number of entries
unfoldable pub first_bad_entry : List ℤ → List ℕ → List ℤ → ℕ
first_bad_entry e cells levels = first_below (length cells) (is_bad_entry e cells levels)

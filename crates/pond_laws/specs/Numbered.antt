-- The marks while ponds are numbered, in a scan by rising cell number: 0 for a cell that is not wet, 1 for a wet one whose pond has no
-- number yet, the pond's number and 1 for the others.
use Rattle.std.specs.Prelude.{cond, List, ℕ, ◌+◌, ltb, ℤ}
use Rattle.grid.specs.declared.Grid.{Grid}
use Rattle.grid.specs.Below.{table, count_below}
use Rattle.grid.specs.Sheet.{size}
use Rattle.grid.specs.Ponds.{is_wet, lowest_cell, is_lowest}

-- the mark of d when the cells before c are scanned: the ponds whose lowest cell is one of them have their numbers
unfoldable pub mark_to : Grid → List ℤ → List ℤ → ℕ → ℕ → ℕ
mark_to g e f c d =
    cond (is_wet e f d) (cond (ltb (lowest_cell g e f d) c) (count_below (lowest_cell g e f d) (is_lowest g e f) + 2) 1) 0

unfoldable pub marks_to : Grid → List ℤ → List ℤ → ℕ → List ℕ
marks_to g e f c = table (size g) (mark_to g e f c)

-- the number of ponds whose lowest cell is before c
unfoldable pub ponds_to : Grid → List ℤ → List ℤ → ℕ → ℕ
ponds_to g e f c = count_below c (is_lowest g e f)

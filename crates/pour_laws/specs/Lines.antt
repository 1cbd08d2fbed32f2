-- The candidates in the order of the scan, line by line: each two neighbouring cells once.
use Rattle.std.specs.Prelude.{not, cond, ◌&&◌, List, [], ◌∷◌, ◌++◌, ℕ, zero, suc, ◌+◌, ◌-◌, ◌*◌, eqb, ltb, get_or, ℤ}
use Rattle.grid.specs.declared.Grid.{Grid}
use Rattle.grid.specs.Sheet.{is_data}
use Rattle.grid.specs.PourPoints.{Entry, candidate}

-- of the cells c and n, a list of one or none
unfoldable pub candidate_of : List ℤ → List ℕ → ℕ → ℕ → List Entry
candidate_of e labels c n =
    cond (is_data e c && is_data e n && not (eqb (get_or labels c 0) (get_or labels n 0))) (candidate e labels c n ∷ []) []

-- of c and n, c + 1 and n + 1, and so on, k times; the last first
unfoldable pub run : List ℤ → List ℕ → ℕ → ℕ → ℕ → List Entry
run e labels c n zero = []
run e labels c n (suc k) = candidate_of e labels (c + k) (n + k) ++ run e labels c n k

-- of the line that begins at cell c and the next: south-west, south-east, south
unfoldable pub between : List ℤ → List ℕ → ℕ → ℕ → List Entry
between e labels cols c =
    run e labels (c + 1) (c + cols) (cols - 1) ++ run e labels c (c + cols + 1) (cols - 1) ++ run e labels c (c + cols) cols

-- of line r: with the next line, if there is one, and within the line
unfoldable pub line : Grid → List ℤ → List ℕ → ℕ → List Entry
line g e labels r =
    cond (ltb (r + 1) g.rows) (between e labels g.cols (r * g.cols)) []
    ++ run e labels (r * g.cols) (r * g.cols + 1) (g.cols - 1)

-- of the lines below r
unfoldable pub lines : Grid → List ℤ → List ℕ → ℕ → List Entry
lines g e labels zero = []
lines g e labels (suc r) = line g e labels r ++ lines g e labels r

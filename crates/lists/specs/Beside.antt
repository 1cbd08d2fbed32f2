-- Two cells beside each other, by rows and columns alone.
use Rattle.std.specs.Prelude.{Bool, not, ◌&&◌, ℕ, ◌+◌, eqb, leb}

-- two rows, or two columns, are at most one apart
unfoldable pub are_close : ℕ → ℕ → Bool
are_close x y = leb x (y + 1) && leb y (x + 1)

-- the cells in row r, column q and in row s, column t are at most one row and one column apart, and are two
unfoldable pub are_beside : (r q s t : ℕ) → Bool
are_beside r q s t = (are_close r s && are_close q t) && not (eqb r s && eqb q t)

-- What is shown of closed sides (document 02, Wish 3): named types, each with a law.
use Rattle.std.specs.Prelude.{◌≡◌, Bool, true, false, not, ◌||◌, List, ℕ, eqb, length, get_or, ℤ}
use Rattle.grid.specs.declared.Grid.{Grid}
use Rattle.grid.specs.Sheet.{size, is_data, neighbour, SixteenBits}
use Rattle.grid.specs.Outlet.{is_gap, is_outlet, drained, first_stranded}
use Rattle.grid.specs.Fill.{filled}
use Rattle.grid.specs.Culverts.{opened, first_bad_entry}
use Rattle.grid.specs.Guarantee.{PathToOutlet}
use Rattle.grid.specs.Readings.{ReadsBy}
use Rattle.grid.specs.Gaps.{NoGaps}

-- ---- 18: `drained` tells exactly the cells with a chain, as document 01 has it, to an outlet. The elevations are rows × columns: 7 is
-- asked before
abbrev pub DrainedByChains : Type 0
DrainedByChains =
    (g : Grid) (e : List ℤ) → length e ≡ size g → (c : ℕ) →
    (get_or (drained g e) c false ≡ true → (l : List ℕ) × PathToOutlet g e c l)
    × ((l : List ℕ) → PathToOutlet g e c l → get_or (drained g e) c false ≡ true)

-- ---- opening cells moves neither voids nor gaps nor outlets, so 18 of the opened sheet is 18 of the sheet handed in, after a yes to 15
-- and 16 for every entry
abbrev pub OpenedAlike : Type 0
OpenedAlike =
    (g : Grid) (e : List ℤ) (cells : List ℕ) (levels : List ℤ) → first_bad_entry e cells levels ≡ length cells →
    ((c : ℕ) → is_data (opened e cells levels) c ≡ is_data e c)
    × ((c : ℕ) → is_gap g (opened e cells levels) c ≡ is_gap g e c)
    × ((c : ℕ) → is_outlet g (opened e cells levels) c ≡ is_outlet g e c)
    × (first_stranded g (opened e cells levels) ≡ first_stranded g e)

-- ---- document 01's rule, as it stood before sides could be closed: a step that "points off the sheet or at a void". By it "An outlet is a
-- data cell on the sheet's border or beside a void", where a border cell is one with a step off the sheet, and "Its code is the first of
-- 32, 2, 128, 8, 1, 4, 16, 64 that points off the sheet or at a void"
unfoldable pub base_leaves : Grid → List ℤ → ℕ → ℕ → Bool
base_leaves g e c p = eqb (neighbour g c p) (size g) || not (is_data e (neighbour g c p))

-- with no side closed and no gap a sheet is document 01's: outlets, filled sheet, codes, by drops over the distances of its own cells, which
-- with square ones are document 01's (`SquareCells` and `OldDistances` of Shapes), and question 10; so is the filled sheet, whose codes the one
-- call works out; and 18 is never answered by a no
abbrev pub OpenSides : Type 0
OpenSides =
    (g : Grid) (e : List ℤ) → g.sides ≡ 0 → NoGaps g e →
    ReadsBy g e (base_leaves g e)
    × (length e ≡ size g → SixteenBits e → ReadsBy g (filled g e) (base_leaves g (filled g e)))
    × (length e ≡ size g → first_stranded g e ≡ size g)

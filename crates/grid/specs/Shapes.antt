-- What is shown of oblong cells (document 02, Wish 7): named types, each with a law.
use Rattle.std.specs.Prelude.{◌≡◌, cond, List, ℕ, ◌*◌, ◌%◌, ◌<◌, eqb, ℤ}
use Rattle.grid.specs.declared.Grid.{Grid}
use Rattle.grid.specs.Sheet.{shaped_grid}
use Rattle.grid.specs.Outlet.{is_outlet, outlet_code, first_stranded}
use Rattle.grid.specs.Fill.{filled}
use Rattle.grid.specs.Directions.{squared_distance, levels, flat_sum, directions, first_unlevelled}
use Rattle.grid.specs.Routes as R
use Rattle.grid.specs.Ponds as P
use Rattle.grid.specs.Guarantee.{PathToOutlet, DrainedSheet}

-- the same sheet with cells of another width and height
abbrev pub reshaped : Grid → (width height : ℕ) → Grid
reshaped g width height = shaped_grid g.rows g.cols g.sides width height

-- ---- "Square cells give the old codes at any width": those of cells of 1 by 1
abbrev pub SquareCells : Type 0
SquareCells = (g : Grid) (e : List ℤ) → g.width ≡ g.height → 0 < g.width → directions g e ≡ directions (reshaped g 1 1) e

-- and so for any shape: a width and a height in another unit, k of it for one, give the same codes, so that their ratio is all that counts
abbrev pub AnyUnit : Type 0
AnyUnit = (g : Grid) (e : List ℤ) (k : ℕ) → 0 < k → directions (reshaped g (k * g.width) (k * g.height)) e ≡ directions g e

-- of 1 by 1 the squares are document 01's: "The weighted drop divides by √2 at corners"
abbrev pub OldDistances : Type 0
OldDistances = (g : Grid) (p : ℕ) → squared_distance (reshaped g 1 1) p ≡ cond (eqb (p % 2) 0) 2 1

-- ---- "Fill and the least-sheet property don't change": whatever the shape, the outlets and their codes, the cells without a chain to an
-- outlet, the filled sheet, the rival routes, the rival sheets, and the ponds; of codes all that a flat has, its levels and sums; and the
-- routes, counts, labels and watersheds of given codes
pub record SameButCodes (g : Grid) (width height : ℕ) (e : List ℤ) : Type 0 where
  pub outlets : (c : ℕ) → is_outlet (reshaped g width height) e c ≡ is_outlet g e c
  pub outlet_codes : (c : ℕ) → outlet_code (reshaped g width height) e c ≡ outlet_code g e c
  pub eighteen : first_stranded (reshaped g width height) e ≡ first_stranded g e
  pub fill : filled (reshaped g width height) e ≡ filled g e
  pub paths : (c : ℕ) (l : List ℕ) → PathToOutlet (reshaped g width height) e c l → PathToOutlet g e c l
  pub paths_back : (c : ℕ) (l : List ℕ) → PathToOutlet g e c l → PathToOutlet (reshaped g width height) e c l
  pub drained : (f : List ℤ) → DrainedSheet (reshaped g width height) e f → DrainedSheet g e f
  pub drained_back : (f : List ℤ) → DrainedSheet g e f → DrainedSheet (reshaped g width height) e f
  pub ponds : P.ponds (reshaped g width height) e ≡ P.ponds g e
  pub pond_count : P.pond_count (reshaped g width height) e ≡ P.pond_count g e
  pub flats : levels (reshaped g width height) e ≡ levels g e
  pub flat_sums : (l : List ℕ) (c : ℕ) → flat_sum (reshaped g width height) e l c ≡ flat_sum g e l c
  pub ten : first_unlevelled (reshaped g width height) e ≡ first_unlevelled g e
  pub routes : (codes : List ℕ) (c : ℕ) → R.route (reshaped g width height) codes c ≡ R.route g codes c
  pub counts : (codes : List ℕ) → R.counts (reshaped g width height) codes ≡ R.counts g codes
  pub labels : (codes : List ℕ) → R.labels (reshaped g width height) codes ≡ R.labels g codes
  pub watersheds : (codes starts : List ℕ) → R.watersheds (reshaped g width height) codes starts ≡ R.watersheds g codes starts

abbrev pub AnyShape : Type 0
AnyShape = (g : Grid) (width height : ℕ) (e : List ℤ) → SameButCodes g width height e

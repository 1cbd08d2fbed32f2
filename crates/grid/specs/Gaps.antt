-- What is shown of gaps (document 02, Wish 9): named types, each with a law.
use Rattle.std.specs.Prelude.{◌≡◌, Bool, true, false, not, cond, ◌⊎◌, List, ℕ, ◌<◌, eqb, length, get_or, ℤ}
use Rattle.grid.specs.declared.Grid.{Grid}
use Rattle.grid.specs.Below.{has}
use Rattle.grid.specs.Sheet.{size, void, at, is_data, neighbour, SixteenBits}
use Rattle.grid.specs.Joined.{ChainTo}
use Rattle.grid.specs.Outlet.{is_open, is_void, on_open_side, is_outside, is_gap, is_outlet}
use Rattle.grid.specs.Fill.{filled}
use Rattle.grid.specs.Directions.{directions}
use Rattle.grid.specs.Routes.{has_code, receiver, route}
use Rattle.grid.specs.Readings.{ReadsBy}

-- ---- `is_outside` is exactly "neighbouring voids lead from it, itself included, to a void on an open side of the border"
abbrev pub OutsideByChains : Type 0
OutsideByChains =
    (g : Grid) (e : List ℤ) (c : ℕ) →
    (is_outside g e c ≡ true → (l : List ℕ) × ChainTo g (is_void g e) (on_open_side g) c l)
    × ((l : List ℕ) → ChainTo g (is_void g e) (on_open_side g) c l → is_outside g e c ≡ true)

-- ---- "Any other void is a gap: it takes no water, makes no outlet, and no code points at it". Of the gaps of a sheet e, in a sheet f and
-- its codes: f is e itself where codes are worked out as handed in, and the filled sheet in the one call
pub record GapsAside (g : Grid) (e f : List ℤ) (codes : List ℕ) : Type 0 where
  -- it keeps −32,768 and code 0
  pub keeps_void : (c : ℕ) → is_gap g e c ≡ true → at f c ≡ void
  pub keeps_zero : (c : ℕ) → is_gap g e c ≡ true → get_or codes c 0 ≡ 0
  -- "no code points at it"
  pub no_code : (c : ℕ) → has_code codes c ≡ true → is_gap g e (receiver g codes c) ≡ false
  -- "it takes no water": no route holds it, and by `no_code` none ends in a step to it
  pub no_water : (c d : ℕ) → is_gap g e c ≡ true → has c (route g codes d) ≡ false
  -- it "makes no outlet": where each step leads to a data cell, to a gap, or off the sheet at no open side, there is none
  pub no_outlet : (c : ℕ) →
      ((p : ℕ) → p < 8 →
      (is_data e (neighbour g c p) ≡ true) ⊎ ((is_gap g e (neighbour g c p) ≡ true) ⊎ ((neighbour g c p ≡ size g) × (is_open g p ≡ false)))) →
      is_outlet g f c ≡ false

abbrev pub NoCodeAtGap : Type 0
NoCodeAtGap =
    (g : Grid) (e : List ℤ) → length e ≡ size g → SixteenBits e →
    GapsAside g e e (directions g e) × GapsAside g e (filled g e) (directions g (filled g e))

-- ---- "sheets without are compared as they always were"
abbrev pub NoGaps : Grid → List ℤ → Type 0
NoGaps g e = (c : ℕ) → is_gap g e c ≡ false

-- the rule before Wish 9: off the sheet "through an open side by a straight step", or to any void
unfoldable pub void_leaves : Grid → List ℤ → ℕ → ℕ → Bool
void_leaves g e c p = cond (eqb (neighbour g c p) (size g)) (is_open g p) (not (is_data e (neighbour g c p)))

-- the filled sheet too, whose codes the one call works out
abbrev pub WithoutGaps : Type 0
WithoutGaps =
    (g : Grid) (e : List ℤ) → NoGaps g e →
    ReadsBy g e (void_leaves g e) × (length e ≡ size g → SixteenBits e → ReadsBy g (filled g e) (void_leaves g (filled g e)))

-- What is shown of two text calls (document 02, Wish 5), about the lists that they leave, by their promises: named types, each with a law.
-- That the elevations have 16 bits is no premise here: the writer's promise has it (`sixteen_bits`).
use Rattle.std.specs.Prelude.{◌≡◌, List, ◌++◌, map, ℕ, ◌*◌, ◌≤◌, T, length, take, drop, ℤ}
use Rattle.grid.specs.declared.Grid.{Grid}
use Rattle.grid.specs.declared.Counted.{Counted}
use Rattle.grid.specs.declared.Dimensions.{Dimensions}
use Rattle.grid.specs.Sheet.{size}
use Rattle.grid.specs.Checks.{is_accepted, of_counted, of_dimensions}
use Rattle.grid.specs.Writing.{raised, SameSheet}
use Rattle.grid.specs.Promises.{ReadPromise, WritePromise}

-- a call of write that is accepted, then a call of read on the bytes that it reports, into a sheet with room
abbrev pub WriteThenRead : Type 0
WriteThenRead =
    (g : Grid) (e : List ℤ) (text₀ text₁ : List ℕ) (w : Counted) → WritePromise g e text₀ text₁ w → T (is_accepted (of_counted w)) →
    (sheet₀ sheet₁ : List ℤ) (r : Dimensions) → ReadPromise (take w.count text₁) sheet₀ sheet₁ r → size g ≤ length sheet₀ →
    (r ≡ record { number = 0; place = 0; rows = g.rows; cols = g.cols }) × (sheet₁ ≡ e ++ drop (size g) sheet₀)

-- a call of read that is accepted, then a call of write on the rows, columns and elevations that it leaves, into a buffer with room for
-- the text; whichever sides are closed and whatever the shape of the cells
abbrev pub ReadThenWrite : Type 0
ReadThenWrite =
    (text : List ℕ) (sheet₀ sheet₁ : List ℤ) (r : Dimensions) → ReadPromise text sheet₀ sheet₁ r → T (is_accepted (of_dimensions r)) →
    (g : Grid) → g.rows ≡ r.rows → g.cols ≡ r.cols → (text₀ text₁ : List ℕ) (w : Counted) →
    WritePromise g (take (r.rows * r.cols) sheet₁) text₀ text₁ w → length text ≤ length text₀ →
    (w ≡ record { number = 0; place = 0; count = length text }) × (text₁ ≡ map raised text ++ drop (length text) text₀)

-- two calls of write that are accepted leave equal bytes exactly where the sheets are equal
abbrev pub EqualBytes : Type 0
EqualBytes =
    (g h : Grid) (e f : List ℤ) (text₀ text₁ : List ℕ) (w : Counted) (other₀ other₁ : List ℕ) (v : Counted) →
    WritePromise g e text₀ text₁ w → T (is_accepted (of_counted w)) → WritePromise h f other₀ other₁ v → T (is_accepted (of_counted v)) →
    (take w.count text₁ ≡ take v.count other₁ → SameSheet g h e f)
    × (SameSheet g h e f → take w.count text₁ ≡ take v.count other₁)

-- The walked stream and the computed one (document 02, Wish 6): "Both are lists of cell numbers. We want the longest ending that both lists
-- share, handed back as a part of the first list itself, empty if they end apart." The questions about two lists, their shared ending, and
-- what is shown of it: named types, each with a law.
use Rattle.std.specs.Prelude.{◌≡◌, Bool, not, ◌&&◌, ◌||◌, List, [], ◌∷◌, ◌++◌, ℕ, min, ◌+◌, ◌-◌, ◌*◌, ◌≤◌, T, eqb, ltb, leb, length, get_or, drop, ℤ}
use Rattle.std.specs.Borrow.{Bor}
use Rattle.grid.specs.declared.Grid.{Grid}
use Rattle.grid.specs.declared.Answer.{Answer}
use Rattle.grid.specs.Below.{In, any_below, first_below}
use Rattle.grid.specs.Sheet.{grid_of, size, neighbour, SixteenBits}
use Rattle.grid.specs.Fill as F
use Rattle.grid.specs.Directions.{directions}
use Rattle.grid.specs.Routes.{route}
use Rattle.grid.specs.Checks.{refusal, accepted, is_accepted, ask, ask_size, ask_sheets, ask_codes, codes_check, drain_check}

-- ---- the questions

-- "Two cells are neighbours if they touch at a side or corner" (`Touch`), as a test
unfoldable pub are_neighbours : Grid → ℕ → ℕ → Bool
are_neighbours g c n = any_below 8 (λ p. eqb (neighbour g c p) n)

-- the cell at place i of a list "lies outside the sheet or is no neighbour of the one before it"; before the first there is none
unfoldable pub is_stray : Grid → List ℕ → ℕ → Bool
is_stray g l i = leb (size g) (get_or l i 0) || (ltb 0 i && not (are_neighbours g (get_or l (i - 1) 0) (get_or l i 0)))

-- the first such place, or the list's length
unfoldable pub first_stray : Grid → List ℕ → ℕ
first_stray g l = first_below (length l) (is_stray g l)

-- 19, "place the cell's position in its list, from 0"
unfoldable pub ask_list : Grid → List ℕ → Answer → Answer
ask_list g l later = ask (eqb (first_stray g l) (length l)) (refusal 19 (first_stray g l)) later

-- "Checks: after 6, 19 .., first list first"
unfoldable pub ending_check : Grid → List ℕ → List ℕ → Answer
ending_check g first second = ask_size g (ask_list g first (ask_list g second accepted))

-- ---- the part

-- the cell of l that has k cells after it
abbrev pub from_end : List ℕ → ℕ → ℕ
from_end l k = get_or l (length l - (k + 1)) 0

-- how many cells, counted from the end, both lists have alike
unfoldable pub shared_length : List ℕ → List ℕ → ℕ
shared_length l m = first_below (min (length l) (length m)) (λ k. not (eqb (from_end l k) (from_end m k)))

unfoldable pub shared_ending : List ℕ → List ℕ → List ℕ
shared_ending l m = drop (length l - shared_length l m) l

-- l ends with s
abbrev pub EndsWith : List ℕ → List ℕ → Type 0
EndsWith l s = (rest : List ℕ) × (rest ++ s ≡ l)

-- "the longest ending that both lists share"
pub record LongestShared (l m s : List ℕ) : Type 0 where
  pub ends_first : EndsWith l s
  pub ends_second : EndsWith m s
  pub longest : (other : List ℕ) → EndsWith l other → EndsWith m other → length other ≤ length s

-- "a part of the first list itself": it lies in the first list's memory, 4 bytes a cell, and reaches to that list's end
pub record EndOf (whole part : Bor (List ℕ)) : Type 0 where
  pub block : part.ref_ptr.0 ≡ whole.ref_ptr.0
  pub byte : part.ref_ptr.1 ≡ whole.ref_ptr.1 + 4 * (length whole.now - length part.now)

-- two lists "end apart": their last cells differ
pub record EndApart (l m : List ℕ) : Type 0 where
  pub last_first : ℕ
  pub last_second : ℕ
  pub ends_first : EndsWith l (last_first ∷ [])
  pub ends_second : EndsWith m (last_second ∷ [])
  pub differ : last_first ≡ last_second → ⊥

-- ---- whole routes

-- s is what is left of l from the first cell on that lies on m: it "begins at the first cell where they meet, and is empty if they never
-- do"
pub record Joins (l m s : List ℕ) : Type 0 where
  pub before : List ℕ
  pub whole : before ++ s ≡ l
  pub none_before : (x : ℕ) → In x before → In x m → ⊥
  pub together : (x : ℕ) → In x s → In x m

-- "one accepted sheet of codes": 5, 6, 7, 11 and 12, as every call from codes asks them
abbrev pub AcceptedCodes : Grid → List ℕ → Type 0
AcceptedCodes g codes = T (is_accepted (ask_sheets g (length codes ∷ []) [] (ask_codes g codes accepted)))

-- "If both are whole routes on one accepted sheet of codes, that part begins at the first cell where they meet": such lists are accepted,
-- and their shared ending is where they join, on the one and on the other
pub record RoutesJoin (g : Grid) (codes : List ℕ) (a b : ℕ) : Type 0 where
  pub accepts : ending_check g (route g codes a) (route g codes b) ≡ accepted
  pub on_first : Joins (route g codes a) (route g codes b) (shared_ending (route g codes a) (route g codes b))
  pub on_second : Joins (route g codes b) (route g codes a) (shared_ending (route g codes a) (route g codes b))

abbrev pub AllRoutesJoin : Type 0
AllRoutesJoin = (g : Grid) (codes : List ℕ) → AcceptedCodes g codes → (a b : ℕ) → RoutesJoin g codes a b

-- codes that the counts or the labels call accepts are such a sheet, and so are those that the one call works out, whichever sides are
-- closed and whatever the shape of the cells: what sees codes only knows neither. Every lent `&[i16]` meets the condition on elevations
abbrev pub CodesOfCalls : Type 0
CodesOfCalls =
    ((g : Grid) (codes : List ℕ) (result work : ℕ) → T (is_accepted (codes_check g codes result work)) → AcceptedCodes g codes)
    × ((g : Grid) (e : List ℤ) (filled codes counts labels work : ℕ) → SixteenBits e →
    T (is_accepted (drain_check g e filled codes counts labels work)) →
    AcceptedCodes (grid_of g.rows g.cols) (directions g (F.filled g e)))

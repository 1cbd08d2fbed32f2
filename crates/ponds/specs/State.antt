-- What is left of the promise once 5 to 9 are answered.
use Rattle.std.specs.Prelude.{◌≡◌, List, ℕ, T, leb, length, ℤ}
use Rattle.grid.specs.Sheet.{SixteenBits}
use Rattle.grid.specs.declared.Grid.{Grid}
use Rattle.grid.specs.declared.Answer.{Answer}
use Rattle.grid.specs.declared.Counted.{Counted}
use Rattle.grid.specs.Fill.{filled}
use Rattle.grid.specs.Ponds as P
use Rattle.grid.specs.Checks.{ask, refusal, accepted, of_counted, reported}
use Rattle.grid.specs.Promises.{result_of, up_to_nine, pond_column}

-- question 14
abbrev pub asked14 : Grid → List ℤ → List ℤ → Answer
asked14 g e level = ask (leb (P.pond_count g e) (length level)) (refusal 14 (P.pond_count g e)) accepted

-- the answer to what is asked, and the results
pub record Settled (g : Grid) (e : List ℤ) (ponds₀ ponds₁ : List ℕ) (level₀ level₁ : List ℤ) (cells₀ cells₁ volume₀ volume₁ : List ℕ)
    (asked : Answer) (r : Counted) : Type 0 where
  pub range : SixteenBits e
  pub late : T (up_to_nine r.number) → ⊥
  pub answer : of_counted r ≡ asked
  pub count : r.count ≡ reported (of_counted r) (P.pond_count g e)
  pub ponds : ponds₁ ≡ result_of (of_counted r) (P.ponds g e) ponds₀
  pub level : level₁ ≡ pond_column (of_counted r) (P.pond_count g e) (P.pond_level g (filled g e) (P.ponds g e)) level₀
  pub cells : cells₁ ≡ pond_column (of_counted r) (P.pond_count g e) (P.pond_cells g (P.ponds g e)) cells₀
  pub volume : volume₁ ≡ pond_column (of_counted r) (P.pond_count g e) (P.pond_volume g e (filled g e) (P.ponds g e)) volume₀

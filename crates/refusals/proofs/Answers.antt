-- A no's number is no 0.
use Rattle.std.specs.Prelude.{◌≡◌, ℕ, ◌<◌}
use native.Mathlib.Omega.{arith}
use Rattle.refusals.specs.declared.Question.{Question}
use Rattle.refusals.specs.declared.Question.TheVariants.{TextLength, TextBytes, TextForm, TextCells, Rows, Cols, Inputs, Results, WorkBuffer, Levels, Codes, Routes}
use Rattle.refusals.specs.declared.Question.TheVariants.{Starts, Columns, CulvertCell, CulvertLevel, Sides, Chains, ListedCells, CellShape, Crew, Uncollected, TraceCell, StartLabels}
use Rattle.refusals.specs.declared.Refusal.{Refusal}
use Rattle.refusals.specs.Answers.{number_of, refused}

pub number_above : (q : Question) → 0 < number_of q
number_above TextLength = omega arith
number_above TextBytes = omega arith
number_above TextForm = omega arith
number_above TextCells = omega arith
number_above Rows = omega arith
number_above Cols = omega arith
number_above Inputs = omega arith
number_above Results = omega arith
number_above WorkBuffer = omega arith
number_above Levels = omega arith
number_above Codes = omega arith
number_above Routes = omega arith
number_above Starts = omega arith
number_above Columns = omega arith
number_above CulvertCell = omega arith
number_above CulvertLevel = omega arith
number_above Sides = omega arith
number_above Chains = omega arith
number_above ListedCells = omega arith
number_above CellShape = omega arith
number_above Crew = omega arith
number_above Uncollected = omega arith
number_above TraceCell = omega arith
number_above StartLabels = omega arith

pub is_no : (r : Refusal ℕ) → (refused r).number ≡ 0 → ⊥
is_no r e = let above = number_above r.question in omega arith

-- Which struct C gets of a result: number 0 and place 0 of a yes, and what is reported; the number and the place of a no, and 0 beside it.
use Rattle.std.specs.Prelude.{ℕ, Result, Ok, Err}
use Rattle.grid.specs.declared.Answer.{Answer}
use Rattle.grid.specs.declared.Counted.{Counted}
use Rattle.grid.specs.declared.Located.{Located}
use Rattle.grid.specs.declared.Dimensions.{Dimensions}
use Rattle.grid.specs.declared.Collected.{Collected}
use Rattle.grid.specs.Checks.{refusal, accepted}
use Rattle.refusals.specs.declared.Question.{Question}
use Rattle.refusals.specs.declared.Question.TheVariants.{TextLength, TextBytes, TextForm, TextCells, Rows, Cols, Inputs, Results, WorkBuffer, Levels, Codes, Routes}
use Rattle.refusals.specs.declared.Question.TheVariants.{Starts, Columns, CulvertCell, CulvertLevel, Sides, Chains, ListedCells, CellShape, Crew, Uncollected, TraceCell, StartLabels}
use Rattle.refusals.specs.declared.Refusal.{Refusal}
use Rattle.refusals.specs.declared.Size.{Size}
use Rattle.refusals.specs.declared.Trace.{Trace}
use Rattle.refusals.specs.declared.Trace.TheVariants.{Absent, Waiting, Finished}

-- the number of a no, as the documents have it
abbrev pub number_of : Question → ℕ
number_of TextLength = 1
number_of TextBytes = 2
number_of TextForm = 3
number_of TextCells = 4
number_of Rows = 5
number_of Cols = 6
number_of Inputs = 7
number_of Results = 8
number_of WorkBuffer = 9
number_of Levels = 10
number_of Codes = 11
number_of Routes = 12
number_of Starts = 13
number_of Columns = 14
number_of CulvertCell = 15
number_of CulvertLevel = 16
number_of Sides = 17
number_of Chains = 18
number_of ListedCells = 19
number_of CellShape = 20
number_of Crew = 21
number_of Uncollected = 22
number_of TraceCell = 23
number_of StartLabels = 24

-- a no with a place
abbrev pub placed : {P : Type 0} → Question → P → Refusal P
placed q place = record { question = q; place = place }

-- a no to a question about no place
abbrev pub without_place : Question → Refusal ℕ
without_place q = record { question = q; place = 0 }

abbrev pub refused : Refusal ℕ → Answer
refused r = refusal (number_of r.question) r.place

abbrev pub refused_counted : Refusal ℕ → Counted
refused_counted r = record { number = number_of r.question; place = r.place; count = 0 }

abbrev pub refused_located : Refusal ℕ → Located
refused_located r = record { number = number_of r.question; place = r.place }

abbrev pub refused_dimensions : Refusal ℕ → Dimensions
refused_dimensions r = record { number = number_of r.question; place = r.place; rows = 0; cols = 0 }

abbrev pub refused_collected : Refusal ℕ → Collected
refused_collected r = record { number = number_of r.question; place = r.place; status = 0; cell = 0 }

-- the number and the place, whatever is reported
abbrev pub answer_of : {A : Type 0} → Result A (Refusal ℕ) → Answer
answer_of (Ok _) = accepted
answer_of (Err r) = refused r

abbrev pub counted_of : Result ℕ (Refusal ℕ) → Counted
counted_of (Ok count) = record { number = 0; place = 0; count = count }
counted_of (Err r) = refused_counted r

abbrev pub located_of : {A : Type 0} → Result A (Refusal ℕ) → Located
located_of (Ok _) = record { number = 0; place = 0 }
located_of (Err r) = refused_located r

abbrev pub dimensions_of : Result Size (Refusal ℕ) → Dimensions
dimensions_of (Ok size) = record { number = 0; place = 0; rows = size.rows; cols = size.cols }
dimensions_of (Err r) = refused_dimensions r

abbrev pub collected_of : Result Trace (Refusal ℕ) → Collected
collected_of (Ok Absent) = record { number = 0; place = 0; status = 0; cell = 0 }
collected_of (Ok Waiting) = record { number = 0; place = 0; status = 1; cell = 0 }
collected_of (Ok (Finished cell)) = record { number = 0; place = 0; status = 2; cell = cell }
collected_of (Err r) = refused_collected r

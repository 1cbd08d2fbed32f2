-- Tracing for many crews (document 02, Wish 8): "Thirty-two crews, numbered 0 to 31, hand in a cell each and later collect the outlet it
-- drains to." The state is a list of 66 numbers that the caller lends:
--   0 to 31    of each crew: 1 for a trace on its way, 2 for a finished one, any other number for none
--   32 to 63   of each crew: the cell that its trace stands on
--   64         the crew whose turn is next, by its remainder by 32
--   65         the total
-- Every list is a state. The beginning is 66 zeros: no trace, crew 0 next, total 0.
use Rattle.std.specs.Prelude.{Bool, not, cond, ◌&&◌, ◌||◌, List, [], ◌∷◌, ℕ, zero, suc, min, ◌+◌, ◌%◌, eqb, ltb, length, get_or, set}
use Rattle.grid.specs.declared.Grid.{Grid}
use Rattle.grid.specs.declared.Answer.{Answer}
use Rattle.grid.specs.declared.Collected.{Collected}
use Rattle.grid.specs.Below.{first_below}
use Rattle.grid.specs.Routes.{has_code, receiver}
use Rattle.grid.specs.Checks.{refusal, accepted, ask, ask_sheets, ask_work, ask_codes}

-- ---- what a state says

-- the three statuses, in the state and in the answer of a collection: "no trace", "waiting", and a finished trace
abbrev pub no_trace : ℕ
no_trace = 0

abbrev pub waiting : ℕ
waiting = 1

abbrev pub finished : ℕ
finished = 2

abbrev pub status_of : List ℕ → ℕ → ℕ
status_of s k = get_or s k 0

unfoldable pub is_on_way : List ℕ → ℕ → Bool
is_on_way s k = eqb (status_of s k) waiting

unfoldable pub is_finished : List ℕ → ℕ → Bool
is_finished s k = eqb (status_of s k) finished

-- crew k has a trace that "is not yet collected", finished or not
unfoldable pub has_trace : List ℕ → ℕ → Bool
has_trace s k = is_on_way s k || is_finished s k

-- the cell that the trace of crew k stands on, a number of 32 bits
abbrev pub stands_on : List ℕ → ℕ → ℕ
stands_on s k = get_or s (32 + k) 0 % 4294967296

abbrev pub next_crew : List ℕ → ℕ
next_crew s = get_or s 64 0 % 32

abbrev pub total_of : List ℕ → ℕ
total_of s = get_or s 65 0

-- ---- turns

-- 2^64 - 1
abbrev pub largest : ℕ
largest = 18446744073709551615

-- "where a sum doesn't fit, it becomes the largest number"
unfoldable pub capped_sum : ℕ → ℕ → ℕ
capped_sum a b = min (a + b) largest

-- "One 64-bit total .. grows by one for each turn that moves or finishes a trace, and stays at the largest 64-bit number once there"
unfoldable pub counted : List ℕ → List ℕ
counted s = set s 65 (min (total_of s + 1) largest)

-- "A turn moves that crew's trace one cell down, or finishes it at its last cell": the first whose code points off the sheet or at a cell
-- with code 0
unfoldable pub stepped : Grid → List ℕ → List ℕ → ℕ → List ℕ
stepped g codes s k =
    cond (has_code codes (receiver g codes (stands_on s k))) (set s (32 + k) (receiver g codes (stands_on s k))) (set s k finished)

-- "with no trace, or a finished one, it does nothing"
unfoldable pub turn_of : Grid → List ℕ → List ℕ → ℕ → List ℕ
turn_of g codes s k = cond (is_on_way s k) (counted (stepped g codes s k)) s

-- "Turns go round the crews by number, first crew 0, and carry on where the last run stopped"
unfoldable pub turn : Grid → List ℕ → List ℕ → List ℕ
turn g codes s = set (turn_of g codes s (next_crew s)) 64 ((next_crew s + 1) % 32)

unfoldable pub turns : Grid → List ℕ → ℕ → List ℕ → List ℕ
turns g codes zero s = s
turns g codes (suc n) s = turn g codes (turns g codes n s)

-- ---- the three calls: what each asks, and what it leaves after a yes

-- "after 12, 21 for a crew above 31, 22 if that crew's trace is not yet collected, 23 for a cell outside the sheet or with code 0"
unfoldable pub ask_trace : List ℕ → (crew cell : ℕ) → List ℕ → Answer → Answer
ask_trace codes crew cell s later =
    ask (ltb crew 32) (refusal 21 0) (ask (not (has_trace s crew)) (refusal 22 0) (ask (has_code codes cell) (refusal 23 0) later))

unfoldable pub hand_in_check : Grid → List ℕ → (work crew cell : ℕ) → List ℕ → Answer
hand_in_check g codes work crew cell s =
    ask_sheets g (length codes ∷ []) [] (ask_work g work (ask_codes g codes (ask_trace codes crew cell s accepted)))

unfoldable pub handed_in : List ℕ → (crew cell : ℕ) → List ℕ
handed_in s crew cell = set (set s (32 + crew) cell) crew waiting

-- "a run gives 23 if an unfinished trace stands on such a cell, place the lowest such crew": that crew, or 32
unfoldable pub first_lost : List ℕ → List ℕ → ℕ
first_lost codes s = first_below 32 (λ k. is_on_way s k && not (has_code codes (stands_on s k)))

unfoldable pub ask_lost : List ℕ → List ℕ → Answer → Answer
ask_lost codes s later = ask (eqb (first_lost codes s) 32) (refusal 23 (first_lost codes s)) later

unfoldable pub run_check : Grid → List ℕ → (work : ℕ) → List ℕ → Answer
run_check g codes work s = ask_sheets g (length codes ∷ []) [] (ask_work g work (ask_codes g codes (ask_lost codes s accepted)))

-- "Collecting a finished trace gives its last cell and frees the crew; before that the answer is "waiting" or "no trace", as is the case,
-- and nothing changes"; "21 for a crew above 31"
unfoldable pub collected : List ℕ → (crew : ℕ) → Collected
collected s crew =
    cond (ltb crew 32)
    (cond (is_finished s crew) (record { number = 0; place = 0; status = finished; cell = stands_on s crew })
    (record { number = 0; place = 0; status = cond (is_on_way s crew) waiting no_trace; cell = 0 }))
    (record { number = 21; place = 0; status = no_trace; cell = 0 })

unfoldable pub freed : List ℕ → (crew : ℕ) → List ℕ
freed s crew = cond (ltb crew 32 && is_finished s crew) (set s crew no_trace) s

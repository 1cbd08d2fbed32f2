-- What is shown of tracing for many crews (document 02, Wish 8), "for every list of runs, hand-ins and collections that begins with no
-- trace handed in and in which all runs and hand-ins lend the same code sheet": named types, each with a law.
use Rattle.std.specs.Prelude.{◌≡◌, true, false, cond, ◌&&◌, List, [], ◌∷◌, ◌++◌, ◌⊎◌, ℕ, zero, suc, min, ◌+◌, ◌*◌, ◌%◌, ◌≤◌, ◌<◌, eqb, length, replicate}
use Rattle.grid.specs.declared.Grid.{Grid}
use Rattle.grid.specs.declared.Answer.{Answer}
use Rattle.grid.specs.declared.Collected.{Collected}
use Rattle.grid.specs.Below.{last_of}
use Rattle.grid.specs.Routes.{route, label_at}
use Rattle.grid.specs.Checks.{is_accepted, of_collected}
use Rattle.grid.specs.Crews.{finished, is_on_way, is_finished, has_trace, stands_on, next_crew, total_of, largest, turns, hand_in_check}
use Rattle.grid.specs.Crews.{handed_in, first_lost, run_check, collected, freed}
use Rattle.grid.specs.Promises.{HandInPromise, RunPromise, CollectPromise}

-- ---- lists of operations

-- `work` is the length of the work buffer that a run or a hand-in lends. The turns of a run may be any number, above 65,535 too
pub data Operation : Type 0 where
  run : (work turns : ℕ) → Operation
  hand_in : (work crew cell : ℕ) → Operation
  collect : (crew : ℕ) → Operation

-- on one code sheet
module _ (g : Grid) (codes : List ℕ) where
  -- what is answered to an operation on the state s
  unfoldable pub answer_to : List ℕ → Operation → Answer
  answer_to s (run work n) = run_check g codes work s
  answer_to s (hand_in work crew cell) = hand_in_check g codes work crew cell s
  answer_to s (collect crew) = of_collected (collected s crew)

  -- the state that it leaves: "A refused call changes nothing outside the work buffer"
  unfoldable pub after : List ℕ → Operation → List ℕ
  after s (run work n) = cond (is_accepted (run_check g codes work s)) (turns g codes n s) s
  after s (hand_in work crew cell) = cond (is_accepted (hand_in_check g codes work crew cell s)) (handed_in s crew cell) s
  after s (collect crew) = freed s crew

  unfoldable pub after_all : List ℕ → List Operation → List ℕ
  after_all s [] = s
  after_all s (x ∷ l) = after_all (after s x) l

  -- the turns that it takes: "a refused run takes no turns"
  unfoldable pub turns_in : List ℕ → Operation → ℕ
  turns_in s (run work n) = cond (is_accepted (run_check g codes work s)) n 0
  turns_in s (hand_in work crew cell) = 0
  turns_in s (collect crew) = 0

  unfoldable pub turns_in_all : List ℕ → List Operation → ℕ
  turns_in_all s [] = 0
  turns_in_all s (x ∷ l) = turns_in s x + turns_in_all (after s x) l

  -- of n turns, those that move or finish a trace: at each it is the turn of a crew whose trace is on its way
  unfoldable pub busy_turns : ℕ → List ℕ → ℕ
  busy_turns zero s = 0
  busy_turns (suc n) s = busy_turns n s + cond (is_on_way (turns g codes n s) (next_crew (turns g codes n s))) 1 0

  unfoldable pub busy_in : List ℕ → Operation → ℕ
  busy_in s (run work n) = cond (is_accepted (run_check g codes work s)) (busy_turns n s) 0
  busy_in s (hand_in work crew cell) = 0
  busy_in s (collect crew) = 0

  unfoldable pub busy_in_all : List ℕ → List Operation → ℕ
  busy_in_all s [] = 0
  busy_in_all s (x ∷ l) = busy_in s x + busy_in_all (after s x) l

  -- the cells that crew k hands in, in turn: those of its accepted hand-ins
  unfoldable pub hands_in : ℕ → List ℕ → Operation → List ℕ
  hands_in k s (run work n) = []
  hands_in k s (hand_in work crew cell) = cond (eqb crew k && is_accepted (hand_in_check g codes work crew cell s)) (cell ∷ []) []
  hands_in k s (collect crew) = []

  unfoldable pub hands_in_all : ℕ → List ℕ → List Operation → List ℕ
  hands_in_all k s [] = []
  hands_in_all k s (x ∷ l) = hands_in k s x ++ hands_in_all k (after s x) l

  -- crew k's trace is finished, at the last cell of the route from c
  pub record FinishedFrom (s : List ℕ) (k c : ℕ) : Type 0 where
    pub is_finished : is_finished s k ≡ true
    pub last : stands_on s k ≡ last_of (route g codes c) c

  -- the trace that crew k has in the state s, handed in at c, stands finished after the operations l: crew k has handed in no other by then
  pub record StandsFinished (s : List ℕ) (k c : ℕ) (l : List Operation) : Type 0 where
    pub no_other : hands_in_all k s l ≡ []
    pub from : FinishedFrom (after_all s l) k c

  -- one of the operations l is its collection, and right before that it stands finished
  pub record IsCollected (s : List ℕ) (k c : ℕ) (l : List Operation) : Type 0 where
    pub earlier : List Operation
    pub later : List Operation
    pub whole : earlier ++ collect k ∷ later ≡ l
    pub stands : StandsFinished s k c earlier

-- no trace is handed in
pub record NoTraces (s : List ℕ) : Type 0 where
  pub long : length s ≡ 66
  pub none : (k : ℕ) → k < 32 → has_trace s k ≡ false

-- s is the state right after crew k's accepted hand-in of the cell c, anywhere in a list of operations; "begins with no trace handed in"
-- is one of its beginnings, and what other traces the list begins with makes no difference here
pub record JustHandedIn (g : Grid) (codes : List ℕ) (k c : ℕ) (s : List ℕ) : Type 0 where
  pub beginning : List ℕ
  pub long : length beginning ≡ 66
  pub before : List Operation
  pub work : ℕ
  pub accepts : is_accepted (hand_in_check g codes work k c (after_all g codes beginning before)) ≡ true
  pub state : s ≡ after g codes (after_all g codes beginning before) (hand_in work k c)

-- ---- what is shown

-- 66 zeros: no trace, "first crew 0", the total "begun at 0"
abbrev pub zeros : List ℕ
zeros = replicate 66 0

pub record ZerosBegin : Type 0 where
  pub no_traces : NoTraces zeros
  pub first_crew : next_crew zeros ≡ 0
  pub no_total : total_of zeros ≡ 0

-- what the three calls answer and leave is what the operations do, by their promises: what is shown of lists of operations is shown of
-- lists of calls
pub record CallsAreOperations : Type 0 where
  pub hands_in : (g : Grid) (codes : List ℕ) (crew cell : ℕ) (crews₀ crews₁ work₀ work₁ : List ℕ) (r : Answer) →
      HandInPromise g codes crew cell crews₀ crews₁ work₀ work₁ r →
      (r ≡ answer_to g codes crews₀ (hand_in (length work₀) crew cell)) × (crews₁ ≡ after g codes crews₀ (hand_in (length work₀) crew cell))
  pub runs : (g : Grid) (codes : List ℕ) (n : ℕ) (crews₀ crews₁ work₀ work₁ : List ℕ) (r : Answer) →
      RunPromise g codes n crews₀ crews₁ work₀ work₁ r →
      (r ≡ answer_to g codes crews₀ (run (length work₀) n)) × (crews₁ ≡ after g codes crews₀ (run (length work₀) n))
  pub collects : (g : Grid) (codes : List ℕ) (crew : ℕ) (crews₀ crews₁ : List ℕ) (r : Collected) → CollectPromise crew crews₀ crews₁ r →
      (r ≡ collected crews₀ crew) × (crews₁ ≡ after g codes crews₀ (collect crew))

-- "A refused call changes nothing outside the work buffer"; "a refused run takes no turns"
abbrev pub RefusedDoesNothing : Type 0
RefusedDoesNothing =
    (g : Grid) (codes s : List ℕ) (x : Operation) → is_accepted (answer_to g codes s x) ≡ false →
    (after g codes s x ≡ s) × (turns_in g codes s x ≡ 0)

-- "A trace whose route has r cells is finished within 32 × r turns of being handed in": where the operations after the hand-in take so many
-- turns, it stands finished after them, or one of them has collected it
abbrev pub FinishesInTime : Type 0
FinishesInTime =
    (g : Grid) (codes : List ℕ) (k c : ℕ) (s : List ℕ) → JustHandedIn g codes k c s → (l : List Operation) →
    32 * length (route g codes c) ≤ turns_in_all g codes s l → StandsFinished g codes s k c l ⊎ IsCollected g codes s k c l

-- the same at the very turn: where the operations l, and the first a turns of a run that is accepted after them, are so many turns, it
-- stands finished after these a, or one of l has collected it
abbrev pub FinishesAtTurn : Type 0
FinishesAtTurn =
    (g : Grid) (codes : List ℕ) (k c : ℕ) (s : List ℕ) → JustHandedIn g codes k c s → (l : List Operation) (work a : ℕ) →
    is_accepted (run_check g codes work (after_all g codes s l)) ≡ true →
    32 * length (route g codes c) ≤ turns_in_all g codes s l + a →
    ((hands_in_all g codes k s l ≡ []) × FinishedFrom g codes (turns g codes a (after_all g codes s l)) k c) ⊎ IsCollected g codes s k c l

-- "carry on where the last run stopped": turns are taken one after the other, and a run may be cut at any of them and goes on from there as
-- two runs do; where it is refused, so are they
pub record RunsSplit : Type 0 where
  pub by_turns : (g : Grid) (codes s : List ℕ) (a b : ℕ) → turns g codes (a + b) s ≡ turns g codes b (turns g codes a s)
  pub by_runs : (g : Grid) (codes s : List ℕ) (work a b : ℕ) →
      after g codes s (run work (a + b)) ≡ after_all g codes s (run work a ∷ run work b ∷ [])

-- on one sheet, from no trace, no run gets 23: what is asked before it alone can refuse the turns that a trace waits for
abbrev pub NeverLost : Type 0
NeverLost =
    (g : Grid) (codes s : List ℕ) → NoTraces s → (l : List Operation) → first_lost codes (after_all g codes s l) ≡ 32

-- "hand in a cell each and later collect the outlet it drains to": what crew k collects is the last cell of the route from the cell c that
-- it handed in last, and the cell that c's basin label names
pub record OutletOf (g : Grid) (codes : List ℕ) (c cell : ℕ) : Type 0 where
  pub last : cell ≡ last_of (route g codes c) c
  pub label : cell + 1 ≡ label_at g codes c

-- (b, which stands for the last cell of an empty list, is any number: crew k has handed in a cell)
abbrev pub CollectsOutlet : Type 0
CollectsOutlet =
    (g : Grid) (codes s : List ℕ) → NoTraces s → (l : List Operation) (k b : ℕ) →
    (collected (after_all g codes s l) k).status ≡ finished →
    OutletOf g codes (last_of (hands_in_all g codes k s l) b) (collected (after_all g codes s l) k).cell

-- "Turns go round the crews by number .. and carry on where the last run stopped"
abbrev pub TurnsGoRound : Type 0
TurnsGoRound =
    (g : Grid) (codes s : List ℕ) → length s ≡ 66 → (l : List Operation) →
    next_crew (after_all g codes s l) ≡ (next_crew s + turns_in_all g codes s l) % 32

-- "One 64-bit total .. grows by one for each turn that moves or finishes a trace, and stays at the largest 64-bit number once there". An
-- array of 66 numbers of 64 bits meets both conditions
abbrev pub TotalCounts : Type 0
TotalCounts =
    (g : Grid) (codes s : List ℕ) → length s ≡ 66 → total_of s ≤ largest → (l : List Operation) →
    total_of (after_all g codes s l) ≡ min (total_of s + busy_in_all g codes s l) largest

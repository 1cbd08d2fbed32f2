-- Questions 5 to 9 as gates, and what a yes to them says of the sizes.
use mathlib.Core.Path.{◌≡◌, refl, sym, ◌∙◌, ap, ap₂}
use mathlib.Core.Bool.{Bool, true, false, not, ◌&&◌}
use mathlib.Core.List.{List, [], ◌∷◌}
use Prim.Native.Nat.{ℕ, ◌*◌, ◌≤◌}
use native.Mathlib.Nat.{mul-le-mul}
use native.Mathlib.Omega.{arith}
use lib.Dec.{eqb, leb}
use borrow.Author.Tests.{le-leb, leb-true, eqb-true}
use Rattle.grid.specs.declared.Grid.{Grid}
use Rattle.grid.specs.declared.Answer.{Answer}
use Rattle.grid.specs.Sheet.{size}
use Rattle.grid.specs.Checks.{refusal, ask, in_range, in_shape, ask_size, all_have, ask_lengths, ask_sides, ask_shape, ask_sheets, ask_outlets}
use Rattle.grid.specs.Checks.{ask_description, ask_flow, ask_work}
use Rattle.grid_laws.proofs.Tests.{true_false, cond_true, and_true, and_left, and_right, not_is_true, not_is_false}
use Rattle.shape_laws.specs.Shaped.{Shaped}
use Rattle.shape_laws.proofs.Shapes.{shaped_of}
use Rattle.checks.specs.Sizes.{Fits}
use Rattle.checks.proofs.Gate.{Gate, one, both, weaken}

-- what `if !test()` says of what the test answers
pub says_no : {r b : Bool} → r ≡ b → not r ≡ true → b ≡ false
says_no {r = r} e n = sym e ∙ not_is_true r n

pub says_yes : {r b : Bool} → r ≡ b → not r ≡ false → b ≡ true
says_yes {r = r} e n = sym e ∙ not_is_false r n

-- ---- 5 and 6

pub range_low : (k : ℕ) → in_range k ≡ true → 1 ≤ k
unfolding in_range
range_low k e = leb-true 1 k (and_left (leb 1 k) (leb k 4000) e)

pub range_high : (k : ℕ) → in_range k ≡ true → k ≤ 4000
unfolding in_range
range_high k e = leb-true k 4000 (and_right (leb 1 k) (leb k 4000) e)

pub fits_of_range : (g : Grid) → (in_range g.rows ≡ true) × (in_range g.cols ≡ true) → Fits g
fits_of_range g (r, c) =
    record {
      rows_low = range_low g.rows r;
      rows_high = range_high g.rows r;
      cols_low = range_low g.cols c;
      cols_high = range_high g.cols c;
      cells = mul-le-mul (range_high g.rows r) (range_high g.cols c);
    }

pub size_gate : (g : Grid) → Gate (ask_size g) (Fits g)
unfolding ask_size
size_gate g = weaken (fits_of_range g) (both (one (in_range g.rows) 5 0 (omega arith)) (one (in_range g.cols) 6 0 (omega arith)))

-- and back
pub range_of : {k : ℕ} → 1 ≤ k → k ≤ 4000 → in_range k ≡ true
unfolding in_range
range_of {k} low high = and_true (le-leb 1 k low) (le-leb k 4000 high)

pub size_passes : (g : Grid) → Fits g → (later : Answer) → ask_size g later ≡ later
unfolding ask_size
size_passes g f later = cond_true _ _ (range_of f.rows_low f.rows_high) ∙ cond_true _ _ (range_of f.cols_low f.cols_high)

-- sides are no part of it
pub same_fits : (g h : Grid) → g.rows ≡ h.rows → g.cols ≡ h.cols → Fits h → Fits g
same_fits g h r c f = rw (r, c) record {
  rows_low = f.rows_low;
  rows_high = f.rows_high;
  cols_low = f.cols_low;
  cols_high = f.cols_high;
  cells = f.cells;
}

-- ---- 7 to 9

-- two lengths before others
pub all_both : (n a b : ℕ) (ls : List ℕ) → all_have n (a ∷ b ∷ []) ≡ true → all_have n ls ≡ all_have n (a ∷ b ∷ ls)
unfolding all_have
all_both n a b ls e =
    let one : eqb a n ≡ true = and_left (eqb a n) (eqb b n && true) e in
    let two : eqb b n ≡ true = and_left (eqb b n) true (and_right (eqb a n) (eqb b n && true) e) in
    sym (ap (λ (t : Bool). t && (eqb b n && all_have n ls)) one ∙ ap (λ (t : Bool). t && all_have n ls) two)

pub all_not_both : (n a b : ℕ) (ls : List ℕ) → all_have n (a ∷ b ∷ []) ≡ false → all_have n (a ∷ b ∷ []) ≡ all_have n (a ∷ b ∷ ls)
unfolding all_have
all_not_both n a b ls e = e ∙ sym (go (eqb a n) (eqb b n) e)
  where
    go : (x y : Bool) → (x && (y && true)) ≡ false → (x && (y && all_have n ls)) ≡ false
    go false y f = refl
    go true false f = refl
    go true true f = true_false refl f

-- each length of a list is n
abbrev pub AllAre : ℕ → List ℕ → Type 0
AllAre n [] = Unit {0}
AllAre n (l ∷ ls) = (l ≡ n) × AllAre n ls

pub all_are : (n : ℕ) (ls : List ℕ) → all_have n ls ≡ true → AllAre n ls
unfolding all_have
all_are n [] e = tt
all_are n (l ∷ ls) e = (eqb-true l n (and_left (eqb l n) (all_have n ls) e), all_are n ls (and_right (eqb l n) (all_have n ls) e))

-- 5 to 8
pub record Sheets (g : Grid) (inputs results : List ℕ) : Type 0 where
  pub fits : Fits g
  pub inputs_have : AllAre (size g) inputs
  pub results_have : AllAre (size g) results

pub lengths_gate : (g : Grid) (inputs results : List ℕ) →
    Gate (ask_lengths g inputs results) (AllAre (size g) inputs × AllAre (size g) results)
unfolding ask_lengths
lengths_gate g inputs results =
    weaken (λ f. (all_are (size g) inputs f.0, all_are (size g) results f.1))
    (both (one (all_have (size g) inputs) 7 0 (omega arith)) (one (all_have (size g) results) 8 0 (omega arith)))

pub sheets_gate : (g : Grid) (inputs results : List ℕ) → Gate (ask_sheets g inputs results) (Sheets g inputs results)
unfolding ask_sheets
sheets_gate g inputs results =
    weaken (λ f. record { fits = f.0; inputs_have = f.1.0; results_have = f.1.1 })
    (both (size_gate g) (lengths_gate g inputs results))

-- the same with 17 after 6
pub sides_gate : (g : Grid) → Gate (ask_sides g) (leb g.sides 15 ≡ true)
unfolding ask_sides
sides_gate g = one (leb g.sides 15) 17 0 (omega arith)

-- 5, 6 and 17
pub size_and_sides_gate : (g : Grid) → Gate (λ later. ask_size g (ask_sides g later)) (Fits g)
size_and_sides_gate g = weaken (λ f. f.0) (both (size_gate g) (sides_gate g))

pub outlets_gate : (g : Grid) (inputs results : List ℕ) → Gate (ask_outlets g inputs results) (Sheets g inputs results)
unfolding ask_outlets
outlets_gate g inputs results =
    weaken (λ f. record { fits = f.0; inputs_have = f.1.0; results_have = f.1.1 })
    (both (size_and_sides_gate g) (lengths_gate g inputs results))

-- 20
pub shape_gate : (g : Grid) → Gate (ask_shape g) (Shaped g)
unfolding ask_shape
shape_gate g = weaken (shaped_of g) (one (in_shape g.width && in_shape g.height) 20 0 (omega arith))

-- 5, 6, 17 and 20
pub description_gate : (g : Grid) → Gate (ask_description g) (Fits g × Shaped g)
unfolding ask_description
description_gate g = both (size_and_sides_gate g) (shape_gate g)

-- 8 is asked after 5 to 7, which are 5 to 8 without results
pub results_asked : (g : Grid) (inputs results : List ℕ) (later : Answer) →
    ask_sheets g inputs [] (ask (all_have (size g) results) (refusal 8 0) later) ≡ ask_sheets g inputs results later
unfolding ask_sheets ask_lengths all_have
results_asked g inputs results later = refl

-- 7 is asked after 5 and 6, and 17 between them
pub inputs_asked : (g : Grid) (inputs : List ℕ) (later : Answer) →
    ask_size g (ask (all_have (size g) inputs) (refusal 7 0) later) ≡ ask_sheets g inputs [] later
unfolding ask_sheets ask_lengths all_have
inputs_asked g inputs later = refl

pub sides_asked : (g : Grid) (inputs results : List ℕ) (later : Answer) →
    ask_size g (ask_sides g (ask_lengths g inputs results later)) ≡ ask_outlets g inputs results later
unfolding ask_outlets
sides_asked g inputs results later = refl

-- and 20 after 17
pub shape_asked : (g : Grid) (later : Answer) →
    ask_size g (ask_sides g (ask (in_shape g.width && in_shape g.height) (refusal 20 0) later)) ≡ ask_description g later
unfolding ask_description ask_shape
shape_asked g later = refl

pub flow_asked : (g : Grid) (inputs results : List ℕ) (later : Answer) →
    ask_description g (ask_lengths g inputs results later) ≡ ask_flow g inputs results later
unfolding ask_flow
flow_asked g inputs results later = refl

pub lengths_asked : (g : Grid) (inputs results : List ℕ) (later : Answer) →
    ask_sheets g inputs results later ≡ ask_size g (ask_lengths g inputs results later)
unfolding ask_sheets
lengths_asked g inputs results later = refl

pub work_gate : (g : Grid) (work : ℕ) → Gate (ask_work g work) (4 * size g ≤ work)
unfolding ask_work
work_gate g work = weaken (leb-true (4 * size g) work) (one (leb (4 * size g) work) 9 0 (omega arith))

-- 5 to 9
pub record Sized (g : Grid) (inputs results : List ℕ) (work : ℕ) : Type 0 where
  pub fits : Fits g
  pub inputs_have : AllAre (size g) inputs
  pub results_have : AllAre (size g) results
  pub room : 4 * size g ≤ work

pub check_gate : (g : Grid) (inputs results : List ℕ) (work : ℕ) →
    Gate (λ later. ask_sheets g inputs results (ask_work g work later)) (Sized g inputs results work)
check_gate g inputs results work =
    weaken (λ f. record { fits = f.0.fits; inputs_have = f.0.inputs_have; results_have = f.0.results_have; room = f.1 })
    (both (sheets_gate g inputs results) (work_gate g work))

pub outlets_check_gate : (g : Grid) (inputs results : List ℕ) (work : ℕ) →
    Gate (λ later. ask_outlets g inputs results (ask_work g work later)) (Sized g inputs results work)
outlets_check_gate g inputs results work =
    weaken (λ f. record { fits = f.0.fits; inputs_have = f.0.inputs_have; results_have = f.0.results_have; room = f.1 })
    (both (outlets_gate g inputs results) (work_gate g work))

-- the same with 17 and 20
pub record FlowSized (g : Grid) (inputs results : List ℕ) (work : ℕ) : Type 0 where
  pub fits : Fits g
  pub shaped : Shaped g
  pub inputs_have : AllAre (size g) inputs
  pub results_have : AllAre (size g) results
  pub room : 4 * size g ≤ work

-- 7 to 9, after the description's
pub lengths_work_gate : (g : Grid) (inputs results : List ℕ) (work : ℕ) →
    Gate (λ later. ask_lengths g inputs results (ask_work g work later))
    ((AllAre (size g) inputs × AllAre (size g) results) × (4 * size g ≤ work))
lengths_work_gate g inputs results work = both (lengths_gate g inputs results) (work_gate g work)

pub flow_check_gate : (g : Grid) (inputs results : List ℕ) (work : ℕ) →
    Gate (λ later. ask_flow g inputs results (ask_work g work later)) (FlowSized g inputs results work)
unfolding ask_flow
flow_check_gate g inputs results work =
    weaken
    (λ f. record { fits = f.0.0; shaped = f.0.1; inputs_have = f.1.0.0; results_have = f.1.0.1; room = f.1.1 })
    (both (description_gate g) (lengths_work_gate g inputs results work))

-- ---- the lengths of lists

-- a list named again changes nothing
and_idem : (a b : Bool) → (a && (a && b)) ≡ (a && b)
and_idem true b = refl
and_idem false b = refl

pub and_all : (a : Bool) → (a && true) ≡ a
and_all true = refl
and_all false = refl

pub no_results : (n : ℕ) → all_have n [] ≡ true
unfolding all_have
no_results n = refl

pub have_again : (n a : ℕ) (l : List ℕ) → all_have n (a ∷ a ∷ l) ≡ all_have n (a ∷ l)
unfolding all_have
have_again n a l = and_idem (eqb a n) (all_have n l)

-- 7 and 8 look at their lists by all_have alone
same_lengths : (g : Grid) (i i' r r' : List ℕ) (later : Answer) → all_have (size g) i ≡ all_have (size g) i' →
    all_have (size g) r ≡ all_have (size g) r' → ask_lengths g i r later ≡ ask_lengths g i' r' later
unfolding ask_lengths
same_lengths g i i' r r' later p q = ap₂ (λ (x y : Bool). ask x (refusal 7 0) (ask y (refusal 8 0) later)) p q

pub same_lists : (g : Grid) (i i' r r' : List ℕ) (later : Answer) → all_have (size g) i ≡ all_have (size g) i' →
    all_have (size g) r ≡ all_have (size g) r' → ask_sheets g i r later ≡ ask_sheets g i' r' later
unfolding ask_sheets
same_lists g i i' r r' later p q = ap (ask_size g) (same_lengths g i i' r r' later p q)

-- one result sheet, named four times
results_again : (n r : ℕ) → all_have n (r ∷ r ∷ r ∷ r ∷ []) ≡ all_have n (r ∷ [])
results_again n r = have_again n r (r ∷ r ∷ []) ∙ have_again n r (r ∷ []) ∙ have_again n r []

-- what `check` answers for one input sheet, with one result and with none, for two, and for one with four results
pub one_input : (g : Grid) (a r : ℕ) (later : Answer) →
    ask_sheets g (a ∷ a ∷ []) (r ∷ r ∷ r ∷ r ∷ []) later ≡ ask_sheets g (a ∷ []) (r ∷ []) later
one_input g a r later =
    same_lists g (a ∷ a ∷ []) (a ∷ []) (r ∷ r ∷ r ∷ r ∷ []) (r ∷ []) later (have_again (size g) a []) (results_again (size g) r)

-- the input named for the result: 8 refuses nothing that 7 has not refused
pub no_result : (g : Grid) (a : ℕ) (later : Answer) → ask_sheets g (a ∷ []) (a ∷ []) later ≡ ask_sheets g (a ∷ []) [] later
unfolding ask_sheets ask_lengths all_have
no_result g a later = ap (ask_size g) (go (eqb a (size g)))
  where
    go : (t : Bool) → ask (t && true) (refusal 7 0) (ask (t && true) (refusal 8 0) later)
        ≡ ask (t && true) (refusal 7 0) (ask true (refusal 8 0) later)
    go true = refl
    go false = refl

pub two_inputs : (g : Grid) (a b r : ℕ) (later : Answer) →
    ask_sheets g (a ∷ b ∷ []) (r ∷ r ∷ r ∷ r ∷ []) later ≡ ask_sheets g (a ∷ b ∷ []) (r ∷ []) later
two_inputs g a b r later = same_lists g (a ∷ b ∷ []) (a ∷ b ∷ []) (r ∷ r ∷ r ∷ r ∷ []) (r ∷ []) later refl (results_again (size g) r)

pub four_results : (g : Grid) (a b c d e : ℕ) (later : Answer) →
    ask_sheets g (a ∷ a ∷ []) (b ∷ c ∷ d ∷ e ∷ []) later ≡ ask_sheets g (a ∷ []) (b ∷ c ∷ d ∷ e ∷ []) later
four_results g a b c d e later =
    same_lists g (a ∷ a ∷ []) (a ∷ []) (b ∷ c ∷ d ∷ e ∷ []) (b ∷ c ∷ d ∷ e ∷ []) later (have_again (size g) a []) refl

-- what `outlets` answers for one result sheet
pub one_outlet_result : (g : Grid) (a r : ℕ) (later : Answer) →
    ask_outlets g (a ∷ []) (r ∷ r ∷ r ∷ r ∷ []) later ≡ ask_outlets g (a ∷ []) (r ∷ []) later
unfolding ask_outlets
one_outlet_result g a r later =
    ap (λ (x : Answer). ask_size g (ask_sides g x))
    (same_lengths g (a ∷ []) (a ∷ []) (r ∷ r ∷ r ∷ r ∷ []) (r ∷ []) later refl (results_again (size g) r))

-- what `check_flow` answers for one result sheet
pub one_flow_result : (g : Grid) (a r : ℕ) (later : Answer) →
    ask_flow g (a ∷ []) (r ∷ r ∷ r ∷ r ∷ []) later ≡ ask_flow g (a ∷ []) (r ∷ []) later
unfolding ask_flow
one_flow_result g a r later =
    ap (ask_description g)
    (same_lengths g (a ∷ []) (a ∷ []) (r ∷ r ∷ r ∷ r ∷ []) (r ∷ []) later refl (results_again (size g) r))

-- The answers to 13 and 24, each by the first cell for which it is no, after those to 11 and 12.
use mathlib.Core.Path.{◌≡◌, sym, ◌∙◌, ap}
use mathlib.Core.Bool.{true, false, ◌&&◌}
use mathlib.Core.Logic.{⊎_elim}
use mathlib.Core.List.{List}
use Prim.Native.Nat.{ℕ, ◌≤◌, ◌<◌}
use native.Mathlib.Omega.{arith}
use native.Mathlib.Decide.{dec_lt}
use lib.Dec.{eqb, ltb}
use lib.ListN.{length, get_or}
use Rattle.grid.specs.declared.Grid.{Grid}
use Rattle.grid.specs.declared.Answer.{Answer}
use Rattle.grid.specs.Below.{first_below}
use Rattle.grid.specs.Sheet.{size}
use Rattle.grid.specs.Routes.{first_bad_code, first_endless, first_bad_start, lowest_repeated, second_cell, first_repeat}
use Rattle.grid.specs.Checks.{accepted, refusal, ask_cell, ask_codes, ask_starts}
use Rattle.grid_laws.proofs.Tests.{test}
use Rattle.grid_laws.proofs.Below.{first_is, first_none, first_≤}
use Rattle.checks.proofs.Gate.{both, passed, answered_no, answered_yes}
use Rattle.checks.proofs.Questions.{cell_no, cell_yes, cell_gate, codes_gate}

-- ---- question 13
-- r is the first place where a start stands without a code, or the length
pub record FirstStray (codes starts : List ℕ) (r : ℕ) : Type 0 where
  pub within : r ≤ length codes
  pub below : (c : ℕ) → c < r → (eqb (get_or codes c 0) 0 && ltb 0 (get_or starts c 0)) ≡ false
  pub at : r < length codes → (eqb (get_or codes r 0) 0 && ltb 0 (get_or starts r 0)) ≡ true

pub first_stray_is : (g : Grid) (codes starts : List ℕ) → length codes ≡ size g → (r : ℕ) → FirstStray codes starts r →
    r ≡ first_bad_start g codes starts
unfolding first_bad_start
first_stray_is g codes starts long r F = go (dec_lt r (size g))
  where
    go : Dec (r < size g) → r ≡ first_below (size g) (λ c. eqb (get_or codes c 0) 0 && ltb 0 (get_or starts c 0))
    go (yes h) = sym (first_is (size g) (λ c. eqb (get_or codes c 0) 0 && ltb 0 (get_or starts c 0)) r h (F.at (omega arith)) F.below)
    go (no f) =
        let w = F.within in
        let e : r ≡ size g = omega arith in
        e ∙ sym (first_none (size g) (λ c. eqb (get_or codes c 0) 0 && ltb 0 (get_or starts c 0)) (λ j l. F.below j (omega arith)))

pub stray_≤ : (g : Grid) (codes starts : List ℕ) → first_bad_start g codes starts ≤ size g
unfolding first_bad_start
stray_≤ g codes starts = first_≤ (size g) _

-- ---- question 24
pub repeat_≤ : (g : Grid) (starts : List ℕ) → first_repeat g starts ≤ size g
unfolding first_repeat second_cell
repeat_≤ g starts =
    ⊎_elim (λ e. rw e (omega arith)) (λ e. rw e (first_≤ (size g) _)) (test (eqb (lowest_repeated g starts (size g)) 0))

-- ---- the answers
abbrev pub routes_check : Grid → List ℕ → List ℕ → Answer
routes_check g codes starts = ask_codes g codes (ask_starts g codes starts accepted)

module _ (g : Grid) (codes starts : List ℕ) (long : length codes ≡ size g) (b : ℕ) (e : b ≡ first_bad_start g codes starts) where
  pub answer_13 : b < length codes → refusal 13 b ≡ ask_starts g codes starts accepted
  answer_13 h =
      ap (refusal 13) e ∙ sym (cell_no 13 (first_bad_start g codes starts) g (ask_cell 24 g (first_repeat g starts) accepted) (omega arith))

  module _ (none : length codes ≤ b) where
    passed_13 : ask_cell 24 g (first_repeat g starts) accepted ≡ ask_starts g codes starts accepted
    passed_13 =
        let q = stray_≤ g codes starts in
        sym (cell_yes 13 (first_bad_start g codes starts) g (ask_cell 24 g (first_repeat g starts) accepted) (omega arith))

    module _ (d : ℕ) (q : d ≡ first_repeat g starts) where
      pub answer_24 : d < length codes → refusal 24 d ≡ ask_starts g codes starts accepted
      answer_24 h = ap (refusal 24) q ∙ (sym (cell_no 24 (first_repeat g starts) g accepted (omega arith)) ∙ passed_13)

      pub answer_yes : length codes ≤ d → accepted ≡ ask_starts g codes starts accepted
      answer_yes h = let l = repeat_≤ g starts in sym (cell_yes 24 (first_repeat g starts) g accepted (omega arith)) ∙ passed_13

module _ (g : Grid) (codes starts : List ℕ) (r : Answer) (asked : r ≡ ask_codes g codes accepted) where
  -- a no to 11 or 12
  pub answer_no : (r.number ≡ 0 → ⊥) → r ≡ routes_check g codes starts
  answer_no n = answered_no (codes_gate g codes) asked n (ask_starts g codes starts accepted)

  pub answer_after : r.number ≡ 0 → (a : Answer) → a ≡ ask_starts g codes starts accepted → a ≡ routes_check g codes starts
  answer_after z a e = e ∙ answered_yes (codes_gate g codes) asked z (ask_starts g codes starts accepted)

-- ---- what an accepted answer says, as far as the walk needs it
pub record AllYes (g : Grid) (codes starts : List ℕ) : Type 0 where
  pub no_bad : first_bad_code g codes ≡ size g
  pub no_endless : first_endless g codes ≡ size g
  pub no_stray : first_bad_start g codes starts ≡ size g

pub all_yes : (g : Grid) (codes starts : List ℕ) (r : Answer) → r ≡ routes_check g codes starts → r.number ≡ 0 → AllYes g codes starts
all_yes g codes starts r e z =
    let f = (passed (both (codes_gate g codes)
    (both (cell_gate 13 (first_bad_start g codes starts) g (omega arith))
    (cell_gate 24 (first_repeat g starts) g (omega arith)))) e z).fact in
    record { no_bad = f.0.0; no_endless = f.0.1; no_stray = f.1.0 }

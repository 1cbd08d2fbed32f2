-- The promise of the one call, from the answers to its questions and the four results.
use mathlib.Core.Path.{◌≡◌, refl, sym, ◌∙◌, subst}
use mathlib.Core.List.{List, [], ◌∷◌}
use Prim.Native.Nat.{ℕ}
use lib.ListN.{length}
use lib.IntN.{ℤ}
use Rattle.grid.specs.declared.Grid.{Grid}
use Rattle.grid.specs.declared.Answer.{Answer}
use Rattle.grid.specs.Checks.{accepted, ask_flow, ask_work, ask_reach, drain_check}
use Rattle.grid.specs.Promises.{FourResults, DrainPromise}
use Rattle.checks.proofs.Gate.{passed, answered_no, answered_yes}
use Rattle.checks.proofs.Asked.{FlowSized, flow_check_gate}
use Rattle.checks.proofs.Questions.{Late, yes_late, reach_late}
use Rattle.drainage.proofs.Four.{four_of_no}

-- what `check_flow` answers for the one call
abbrev pub asked : Grid → (elevations filled codes counts labels work : ℕ) → Answer
asked g elevations filled codes counts labels work =
    ask_flow g (elevations ∷ []) (filled ∷ codes ∷ counts ∷ labels ∷ []) (ask_work g work accepted)

pub sized : (g : Grid) (e f k a l w : ℕ) (r : Answer) → r ≡ asked g e f k a l w → r.number ≡ 0 →
    FlowSized g (e ∷ []) (f ∷ k ∷ a ∷ l ∷ []) w
sized g e f k a l w r answered z = (passed (flow_check_gate g (e ∷ []) (f ∷ k ∷ a ∷ l ∷ []) w) answered z).fact

module _ (g : Grid) (e f₀ : List ℤ) (k₀ a₀ l₀ w₀ : List ℕ) (r : Answer)
    (answered : r ≡ asked g (length e) (length f₀) (length k₀) (length a₀) (length l₀) (length w₀)) where
  -- a no: every list as at entry
  pub promise_of_no : (r.number ≡ 0 → ⊥) → DrainPromise g e f₀ f₀ k₀ k₀ a₀ a₀ l₀ l₀ w₀ w₀ r
  unfolding drain_check
  promise_of_no n =
      record {
        answer = answered_no (flow_check_gate g _ _ _) answered n (ask_reach g e accepted);
        four = four_of_no g e f₀ f₀ k₀ a₀ l₀ r n refl;
        work = record { same_length = refl; untouched = λ _. refl };
      }

  -- a yes: what is answered to 18 is the answer, with the four results of the sheet that was loaded
  pub promise_of_yes : r.number ≡ 0 → (f₁ : List ℤ) (k₁ a₁ l₁ w₁ : List ℕ) (s : Answer) → s ≡ ask_reach g e accepted →
      FourResults g e f₀ f₁ k₀ k₁ a₀ a₁ l₀ l₁ s → length w₁ ≡ length w₀ → DrainPromise g e f₀ f₁ k₀ k₁ a₀ a₁ l₀ l₁ w₀ w₁ s
  unfolding drain_check
  promise_of_yes z f₁ k₁ a₁ l₁ w₁ s q four same =
      record {
        answer = q ∙ answered_yes (flow_check_gate g _ _ _) answered z (ask_reach g e accepted);
        four = four;
        work = record { same_length = same; untouched = λ t. absurd (subst Late (sym q) (reach_late g e accepted yes_late) t) };
      }

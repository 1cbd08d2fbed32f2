-- From the answers to the questions to the promise of the call: e and f₀ are the elevations and the result list at entry, w₀ the work
-- buffer.
use mathlib.Core.Path.{◌≡◌, refl, sym, ◌∙◌, ap}
use mathlib.Core.Bool.{cond}
use mathlib.Core.List.{List, [], ◌∷◌}
use Prim.Native.Nat.{ℕ, ◌*◌, ◌^◌, ◌≤◌, ◌<◌}
use native.Mathlib.Omega.{arith}
use lib.Dec.{eqb}
use lib.ListN.{length}
use lib.IntN.{ℤ}
use borrow.Author.Tests.{eq-eqb, ne_eqb}
use Rattle.grid.specs.declared.Grid.{Grid}
use Rattle.grid.specs.declared.Answer.{Answer}
use Rattle.grid.specs.Sheet.{size}
use Rattle.grid.specs.Outlet.{first_stranded}
use Rattle.grid.specs.Fill.{filled}
use Rattle.grid.specs.Checks.{refusal, accepted, ask_outlets, ask_work, ask_reach, fill_check}
use Rattle.grid.specs.Promises.{FillPromise}
use Rattle.grid_laws.proofs.Tests.{cond_true, cond_false}
use Rattle.checks.proofs.Gate.{Gate, kept, passed, answered_no, answered_yes, is_accepted_lem}
use Rattle.checks.proofs.Asked.{Sized, outlets_check_gate, one_outlet_result}
use Rattle.checks.proofs.Questions.{stranded_≤, reach_no, reach_yes, number_late, yes_is_late}

module _ (g : Grid) (e f₀ : List ℤ) (w₀ : List ℕ) (r : Answer)
    (asked : r ≡ ask_outlets g (length e ∷ []) (length f₀ ∷ length f₀ ∷ length f₀ ∷ length f₀ ∷ []) (ask_work g (length w₀) accepted)) where
  -- what 18 is asked after
  before_18 : Gate (λ later. ask_outlets g (length e ∷ []) (length f₀ ∷ []) (ask_work g (length w₀) later))
      (Sized g (length e ∷ []) (length f₀ ∷ []) (length w₀))
  before_18 = outlets_check_gate g (length e ∷ []) (length f₀ ∷ []) (length w₀)

  answered : r ≡ ask_outlets g (length e ∷ []) (length f₀ ∷ []) (ask_work g (length w₀) accepted)
  answered = asked ∙ one_outlet_result g (length e) (length f₀) (ask_work g (length w₀) accepted)

  pub refused_promise : (r.number ≡ 0 → ⊥) → FillPromise g e f₀ f₀ w₀ w₀ r
  unfolding fill_check
  refused_promise n =
      record {
        answer = answered_no before_18 answered n (ask_reach g e accepted);
        result = kept n (filled g e);
        work = record { same_length = refl; untouched = λ _. refl };
      }

  pub accepted_sizes : r.number ≡ 0 → (size g < 2 ^ 24) × (g.cols < 2 ^ 24) × (length e ≡ size g) × (length f₀ ≡ size g)
      × (4 * size g ≤ length w₀)
  accepted_sizes z =
      let s = (passed before_18 answered z).fact in
      let c = s.fits.cells in
      let k = s.fits.cols_high in
      (omega arith, omega arith, s.inputs_have.0, s.results_have.0, s.room)

  module _ (z : r.number ≡ 0) (first : ℕ) (place : first ≡ first_stranded g e) (f₁ : List ℤ) (w₁ : List ℕ)
      (written : f₁ ≡ cond (eqb first (size g)) (filled g e) f₀) (same : length w₁ ≡ length w₀) where
    -- 18
    pub stranded_promise : first < length e → FillPromise g e f₀ f₁ w₀ w₁ (refusal 18 first)
    unfolding fill_check
    stranded_promise h =
        let s = (accepted_sizes z).2 in
        record {
          answer =
              ap (refusal 18) place ∙ sym (reach_no g e accepted (let p = place in omega arith))
              ∙ answered_yes before_18 answered z (ask_reach g e accepted);
          result = written ∙ cond_false (filled g e) f₀ (ne_eqb first (size g) (λ q. let y : ⊥ = omega arith in absurd y));
          work = record { same_length = same; untouched = λ t. absurd (number_late 18 tt t) };
        }

    pub accepted_promise : length e ≤ first → FillPromise g e f₀ f₁ w₀ w₁ r
    unfolding fill_check
    accepted_promise h =
        let s = (accepted_sizes z).2 in
        let most = stranded_≤ g e in
        let none : first ≡ size g = omega arith in
        record {
          answer =
              is_accepted_lem before_18 answered z ∙ sym (reach_yes g e accepted (sym place ∙ none))
              ∙ answered_yes before_18 answered z (ask_reach g e accepted);
          result =
              written ∙ cond_true (filled g e) f₀ (eq-eqb first (size g) none)
              ∙ sym (cond_true (filled g e) f₀ (eq-eqb r.number 0 z));
          work = record { same_length = same; untouched = λ t. absurd (yes_is_late z t) };
        }

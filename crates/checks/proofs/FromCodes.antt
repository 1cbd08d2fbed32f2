-- A call from codes to one list of numbers, the counts or the labels: from the answers to its questions to what it promises. k₀ is the
-- result list at entry, w₀ the work buffer, `made` the list that the call makes where every answer is yes.
use mathlib.Core.Path.{◌≡◌, refl, sym, ◌∙◌, ap}
use mathlib.Core.Bool.{cond}
use mathlib.Core.List.{List, [], ◌∷◌}
use Prim.Native.Nat.{ℕ, ◌*◌, ◌≤◌, ◌<◌}
use native.Mathlib.Omega.{arith}
use lib.Dec.{eqb}
use lib.ListN.{length}
use borrow.Author.Tests.{eq-eqb, ne_eqb}
use Rattle.grid.specs.declared.Grid.{Grid}
use Rattle.grid.specs.declared.Answer.{Answer}
use Rattle.grid.specs.Sheet.{size}
use Rattle.grid.specs.Routes.{first_bad_code, first_endless}
use Rattle.grid.specs.Checks.{accepted, refusal, ask_sheets, ask_work, ask_codes, codes_check}
use Rattle.grid.specs.Promises.{result_of, WorkBuffer}
use Rattle.grid_laws.proofs.Tests.{cond_true, cond_false}
use Rattle.checks.specs.Sizes.{Fits}
use Rattle.checks.proofs.Gate.{Gate, kept, passed, answered_no, answered_yes, is_accepted_lem}
use Rattle.checks.proofs.Asked.{Sized, check_gate, one_input}
use Rattle.checks.proofs.Questions.{bad_≤, endless_≤, codes_bad, codes_endless, codes_yes, yes_is_late, number_late}

-- what both calls promise
pub record FromCodes (g : Grid) (codes made k₀ k₁ w₀ w₁ : List ℕ) (r : Answer) : Type 0 where
  pub answer : r ≡ codes_check g codes (length k₀) (length w₀)
  pub result : k₁ ≡ result_of r made k₀
  pub work : WorkBuffer r.number w₀ w₁

-- rows, columns and every length as the calls want them
pub record Sizes (g : Grid) (codes k₀ w₀ : List ℕ) : Type 0 where
  pub fits : Fits g
  pub codes_long : length codes ≡ size g
  pub result_long : length k₀ ≡ size g
  pub room : 4 * size g ≤ length w₀

module _ (g : Grid) (codes k₀ w₀ : List ℕ) (r : Answer)
    (asked : r ≡ ask_sheets g (length codes ∷ length codes ∷ []) (length k₀ ∷ length k₀ ∷ length k₀ ∷ length k₀ ∷ [])
    (ask_work g (length w₀) accepted)) where
  -- what 11 and 12 are asked after
  before_11 : Gate (λ later. ask_sheets g (length codes ∷ []) (length k₀ ∷ []) (ask_work g (length w₀) later))
      (Sized g (length codes ∷ []) (length k₀ ∷ []) (length w₀))
  before_11 = check_gate g (length codes ∷ []) (length k₀ ∷ []) (length w₀)

  answered : r ≡ ask_sheets g (length codes ∷ []) (length k₀ ∷ []) (ask_work g (length w₀) accepted)
  answered = asked ∙ one_input g (length codes) (length k₀) (ask_work g (length w₀) accepted)

  pub refused_promise : {made : List ℕ} → (r.number ≡ 0 → ⊥) → FromCodes g codes made k₀ k₀ w₀ w₀ r
  unfolding codes_check
  refused_promise {made} n =
      record {
        answer = answered_no before_11 answered n (ask_codes g codes accepted);
        result = kept n made;
        work = record { same_length = refl; untouched = λ _. refl };
      }

  module _ (yes : r.number ≡ 0) where
    pub sizes : Sizes g codes k₀ w₀
    sizes =
        let s = (passed before_11 answered yes).fact in
        record {
          fits = s.fits;
          codes_long = s.inputs_have.0;
          result_long = s.results_have.0;
          room = s.room;
        }

    check_is : ask_codes g codes accepted ≡ codes_check g codes (length k₀) (length w₀)
    unfolding codes_check
    check_is = answered_yes before_11 answered yes (ask_codes g codes accepted)

    pub bad_promise : {made : List ℕ} (bad : ℕ) → bad ≡ first_bad_code g codes → bad < length codes
        → FromCodes g codes made k₀ k₀ w₀ w₀ (refusal 11 bad)
    bad_promise bad e h =
        let l = sizes.codes_long in
        record {
          answer = ap (refusal 11) e ∙ sym (codes_bad g codes accepted (omega arith)) ∙ check_is;
          result = refl;
          work = record { same_length = refl; untouched = λ _. refl };
        }

    pub none_bad : (bad : ℕ) → bad ≡ first_bad_code g codes → length codes ≤ bad → first_bad_code g codes ≡ size g
    none_bad bad e h = let l = sizes.codes_long in let b = bad_≤ g codes in omega arith

    module _ (good : first_bad_code g codes ≡ size g) (first : ℕ) (is : first ≡ first_endless g codes) {made : List ℕ}
        (k₁ w₁ : List ℕ) (stands : k₁ ≡ cond (eqb first (size g)) made k₀) (same : length w₁ ≡ length w₀) where
      pub endless_promise : first < length codes → FromCodes g codes made k₀ k₁ w₀ w₁ (refusal 12 first)
      endless_promise h =
          let l = sizes.codes_long in
          record {
            answer = ap (refusal 12) is ∙ sym (codes_endless g codes accepted good (omega arith)) ∙ check_is;
            result = stands ∙ cond_false made k₀ (ne_eqb first (size g) (λ q. let z : ⊥ = omega arith in absurd z));
            work = record { same_length = same; untouched = λ t. absurd (number_late 12 tt t) };
          }

      pub made_promise : length codes ≤ first → FromCodes g codes made k₀ k₁ w₀ w₁ r
      made_promise h =
          let l = sizes.codes_long in
          let b = endless_≤ g codes in
          let q : first ≡ size g = omega arith in
          record {
            answer = is_accepted_lem before_11 answered yes ∙ sym (codes_yes g codes accepted good (sym is ∙ q)) ∙ check_is;
            result = stands ∙ cond_true made k₀ (eq-eqb first (size g) q) ∙ sym (cond_true made k₀ (eq-eqb r.number 0 yes));
            work = record { same_length = same; untouched = λ t. absurd (yes_is_late yes t) };
          }

-- The answers to 11 and 12, each by the first cell for which it is no, and after 5, 6, 7 and 9.
use mathlib.Core.Path.{◌≡◌, refl, sym, ◌∙◌, ap, subst}
use mathlib.Core.List.{[], List, ◌∷◌}
use Prim.Native.Nat.{ℕ, ◌≤◌, ◌<◌}
use native.Mathlib.Omega.{arith}
use lib.ListN.{length}
use Rattle.grid.specs.declared.Grid.{Grid}
use Rattle.grid.specs.declared.Answer.{Answer}
use Rattle.grid.specs.Sheet.{size}
use Rattle.grid.specs.Routes.{first_bad_code, first_endless}
use Rattle.grid.specs.Checks.{accepted, refusal, ask_sheets, ask_work, ask_codes}
use Rattle.checks.proofs.Gate.{Gate, passed, answered_no, answered_yes}
use Rattle.checks.proofs.Asked.{Sized, check_gate, one_input, no_result}
use Rattle.checks.proofs.Questions.{bad_≤, endless_≤, codes_bad, codes_endless, codes_yes, Late, yes_late, codes_late}
use Rattle.code_check.specs.Asked.{CodesAsked}

module _ (g : Grid) (codes : List ℕ) (long : length codes ≡ size g) where
  pub answer_11 : (b : ℕ) → b ≡ first_bad_code g codes → b < length codes → refusal 11 b ≡ ask_codes g codes accepted
  answer_11 b e h = ap (refusal 11) e ∙ sym (codes_bad g codes accepted (omega arith))

  pub none_bad : (b : ℕ) → b ≡ first_bad_code g codes → length codes ≤ b → first_bad_code g codes ≡ size g
  none_bad b e h = let q = bad_≤ g codes in omega arith

  module _ (good : first_bad_code g codes ≡ size g) (b : ℕ) (e : b ≡ first_endless g codes) where
    pub answer_12 : b < length codes → refusal 12 b ≡ ask_codes g codes accepted
    answer_12 h = ap (refusal 12) e ∙ sym (codes_endless g codes accepted good (omega arith))

    pub answer_yes : length codes ≤ b → accepted ≡ ask_codes g codes accepted
    answer_yes h = let q = endless_≤ g codes in sym (codes_yes g codes accepted good (omega arith))

-- ---- after 5, 6, 7 and 9, which are asked with the codes for a result

module _ (g : Grid) (codes w₀ : List ℕ) (r : Answer)
    (asked : r ≡ ask_sheets g (length codes ∷ length codes ∷ []) (length codes ∷ length codes ∷ length codes ∷ length codes ∷ [])
    (ask_work g (length w₀) accepted)) where
  before_11 : Gate (λ later. ask_sheets g (length codes ∷ []) [] (ask_work g (length w₀) later)) (Sized g (length codes ∷ []) [] (length w₀))
  before_11 = check_gate g (length codes ∷ []) [] (length w₀)

  answered : r ≡ ask_sheets g (length codes ∷ []) [] (ask_work g (length w₀) accepted)
  answered =
      asked ∙ one_input g (length codes) (length codes) (ask_work g (length w₀) accepted)
      ∙ no_result g (length codes) (ask_work g (length w₀) accepted)

  pub refused : (r.number ≡ 0 → ⊥) → CodesAsked g codes w₀ w₀ r
  refused n =
      record {
        answer = answered_no before_11 answered n (ask_codes g codes accepted);
        work = record { same_length = refl; untouched = λ _. refl };
      }

  module _ (yes : r.number ≡ 0) where
    pub sizes : Sized g (length codes ∷ []) [] (length w₀)
    sizes = (passed before_11 answered yes).fact

    pub codes_asked : (a : Answer) (w₁ : List ℕ) → a ≡ ask_codes g codes accepted → length w₁ ≡ length w₀ → CodesAsked g codes w₀ w₁ a
    codes_asked a w₁ e same =
        record {
          answer = e ∙ answered_yes before_11 answered yes (ask_codes g codes accepted);
          work =
              record { same_length = same; untouched = λ t. absurd (subst Late (sym e) (codes_late g codes accepted yes_late) t) };
        }

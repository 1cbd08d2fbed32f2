-- From the answers to the questions to the promise of the call: s₀ is the result list at entry, w₀ the work buffer.
use mathlib.Core.Path.{◌≡◌, refl, sym, ◌∙◌, ap, subst}
use mathlib.Core.List.{List, [], ◌∷◌}
use Prim.Native.Nat.{ℕ, ◌*◌, ◌≤◌, ◌<◌}
use native.Mathlib.Omega.{arith}
use lib.Dec.{T}
use lib.ListN.{length}
use Rattle.grid.specs.declared.Grid.{Grid}
use Rattle.grid.specs.declared.Answer.{Answer}
use Rattle.grid.specs.declared.Counted.{Counted}
use Rattle.grid.specs.Sheet.{size}
use Rattle.grid.specs.Routes.{first_bad_code, first_endless, first_repeat}
use Rattle.grid.specs.Starts.{starts, start_count}
use Rattle.grid.specs.Checks.{accepted, refusal, is_accepted, ask_sheets, ask_work, ask_cell, ask_codes, of_counted, starts_check}
use Rattle.grid.specs.Promises.{result_of, StartsPromise}
use Rattle.grid_laws.proofs.Tests.{T_true, cond_true}
use Rattle.checks.specs.Sizes.{Fits}
use Rattle.checks.proofs.Gate.{Gate, kept, passed, answered_no, answered_yes}
use Rattle.checks.proofs.Asked.{Sized, check_gate, two_inputs}
use Rattle.checks.proofs.Questions.{bad_≤, cell_yes, codes_bad, Late, yes_late, cell_late}
use Rattle.repeat_laws.proofs.TableFive.{starts_pass}
use Rattle.starts.specs.Into.{Started}

-- rows, columns and every length as the call wants them
pub record Sizes (g : Grid) (codes counts s₀ w₀ : List ℕ) : Type 0 where
  pub fits : Fits g
  pub codes_long : length codes ≡ size g
  pub counts_long : length counts ≡ size g
  pub result_long : length s₀ ≡ size g
  pub room : 4 * size g ≤ length w₀

-- the call's own starts have no label twice
own_pass : (g : Grid) (codes counts : List ℕ) (threshold : ℕ) (s₀ s₁ : List ℕ) (a : Answer) →
    s₁ ≡ result_of a (starts g codes counts threshold) s₀ → T (is_accepted a) → first_repeat g s₁ ≡ size g
own_pass g codes counts threshold s₀ s₁ a e t =
    ap (first_repeat g) (e ∙ cond_true (starts g codes counts threshold) s₀
    (T_true (is_accepted a) t)) ∙ starts_pass g codes counts threshold

module _ (g : Grid) (codes counts : List ℕ) (threshold : ℕ) (s₀ w₀ : List ℕ) (r : Answer)
    (asked : r ≡ ask_sheets g (length codes ∷ length counts ∷ []) (length s₀ ∷ length s₀ ∷ length s₀ ∷ length s₀ ∷ [])
    (ask_work g (length w₀) accepted)) where
  -- what 11 and 12 are asked after
  before_11 : Gate (λ later. ask_sheets g (length codes ∷ length counts ∷ []) (length s₀ ∷ []) (ask_work g (length w₀) later))
      (Sized g (length codes ∷ length counts ∷ []) (length s₀ ∷ []) (length w₀))
  before_11 = check_gate g (length codes ∷ length counts ∷ []) (length s₀ ∷ []) (length w₀)

  answered : r ≡ ask_sheets g (length codes ∷ length counts ∷ []) (length s₀ ∷ []) (ask_work g (length w₀) accepted)
  answered = asked ∙ two_inputs g (length codes) (length counts) (length s₀) (ask_work g (length w₀) accepted)

  pub refused_promise : (r.number ≡ 0 → ⊥) →
      StartsPromise g codes counts threshold s₀ s₀ w₀ w₀ (record { number = r.number; place = r.place; count = 0 })
  unfolding starts_check
  refused_promise n =
      record {
        answer = answered_no before_11 answered n (ask_codes g codes accepted);
        count = kept n (start_count g codes counts threshold);
        result = kept n (starts g codes counts threshold);
        distinct = own_pass g codes counts threshold s₀ s₀ r (kept n (starts g codes counts threshold));
        work = record { same_length = refl; untouched = λ _. refl };
      }

  module _ (yes : r.number ≡ 0) where
    pub sizes : Sizes g codes counts s₀ w₀
    sizes =
        let s = (passed before_11 answered yes).fact in
        record {
          fits = s.fits;
          codes_long = s.inputs_have.0;
          counts_long = s.inputs_have.1.0;
          result_long = s.results_have.0;
          room = s.room;
        }

    check_is : ask_codes g codes accepted ≡ starts_check g codes (length counts) (length s₀) (length w₀)
    unfolding starts_check
    check_is = answered_yes before_11 answered yes (ask_codes g codes accepted)

    pub bad_promise : (bad : ℕ) → bad ≡ first_bad_code g codes → bad < length codes →
        StartsPromise g codes counts threshold s₀ s₀ w₀ w₀ (record { number = 11; place = bad; count = 0 })
    bad_promise bad e h =
        let l = sizes.codes_long in
        record {
          answer = ap (refusal 11) e ∙ sym (codes_bad g codes accepted (omega arith)) ∙ check_is;
          count = refl;
          result = refl;
          distinct = λ z. absurd z;
          work = record { same_length = refl; untouched = λ _. refl };
        }

    pub none_bad : (bad : ℕ) → bad ≡ first_bad_code g codes → length codes ≤ bad → first_bad_code g codes ≡ size g
    none_bad bad e h = let l = sizes.codes_long in let b = bad_≤ g codes in omega arith

    pub started_promise : first_bad_code g codes ≡ size g → (s₁ w₁ : List ℕ) (k : Counted) → Started g codes counts threshold s₀ s₁ k →
        length w₁ ≡ length w₀ → StartsPromise g codes counts threshold s₀ s₁ w₀ w₁ k
    unfolding ask_codes
    started_promise good s₁ w₁ k S same =
        record {
          answer = S.answer ∙ sym (cell_yes 11 (first_bad_code g codes) g (ask_cell 12 g (first_endless g codes) accepted) good) ∙ check_is;
          count = S.count;
          result = S.result;
          distinct = own_pass g codes counts threshold s₀ s₁ (of_counted k) S.result;
          work = record { same_length = same; untouched = λ t. absurd (subst Late (sym S.answer) late t) };
        }
      where
        late : Late (ask_cell 12 g (first_endless g codes) accepted)
        late = cell_late 12 (first_endless g codes) g accepted tt yes_late

-- From the answers to the questions of the call to its promise, beside a no and after a yes.
use mathlib.Core.Path.{◌≡◌, refl, sym, ◌∙◌, subst}
use mathlib.Core.List.{List, [], ◌∷◌}
use Prim.Native.Nat.{ℕ}
use lib.ListN.{length}
use lib.IntN.{ℤ}
use borrow.Author.Tests.{eq-eqb, ne_eqb}
use Rattle.grid.specs.declared.Grid.{Grid}
use Rattle.grid.specs.declared.Answer.{Answer}
use Rattle.grid.specs.declared.Located.{Located}
use Rattle.grid.specs.Sheet.{size}
use Rattle.grid.specs.Culverts.{opened, first_bad_entry}
use Rattle.grid.specs.Checks.{refusal, accepted, ask_description, ask_work, ask_sheets, ask_entries, ask_reach, culverts_check, of_located}
use Rattle.grid.specs.Promises.{FourResults, CulvertsPromise}
use Rattle.checks.proofs.Gate.{passed, answered_no, answered_yes, next_no, next_yes}
use Rattle.checks.proofs.Asked.{description_gate, size_passes, lengths_asked, four_results}
use Rattle.checks.proofs.Questions.{Late, yes_late, reach_late}
use Rattle.culvert_laws.specs.Asked.{asked_to9, asked_to16}
use Rattle.culvert_laws.proofs.Asked.{before_15, before_18}
use Rattle.drainage.specs.Results.{Measured}
use Rattle.drainage.proofs.Four.{measured, four_of_no}

module _ (g : Grid) (e : List ℤ) (cells : List ℕ) (levels : List ℤ) (f k a l w : ℕ) where
  -- 5, 6, 17 and 20 are answered, then the lengths of the two lists, then 7 to 9
  module _ (r : Answer) (described : r ≡ ask_description g accepted) where
    pub description_no : (r.number ≡ 0 → ⊥) → r ≡ asked_to9 g e cells levels f k a l w accepted
    description_no n = answered_no (description_gate g) described n _

    pub unlike_lists : r.number ≡ 0 → (length levels ≡ length cells → ⊥) → refusal 7 0 ≡ asked_to9 g e cells levels f k a l w accepted
    unlike_lists z n = next_no (description_gate g) described z (refusal 7 0) _ (ne_eqb (length levels) (length cells) n)

    pub sheets_asked : r.number ≡ 0 → length levels ≡ length cells → (s : Answer) →
        s ≡ ask_sheets g (length e ∷ length e ∷ []) (f ∷ k ∷ a ∷ l ∷ []) (ask_work g w accepted) →
        s ≡ asked_to9 g e cells levels f k a l w accepted
    sheets_asked z y s q =
        q ∙ four_results g (length e) f k a l (ask_work g w accepted)
        ∙ lengths_asked g (length e ∷ []) (f ∷ k ∷ a ∷ l ∷ []) (ask_work g w accepted)
        ∙ size_passes g (passed (description_gate g) described z).fact.0 _
        ∙ next_yes (description_gate g) described z (refusal 7 0) _ (eq-eqb (length levels) (length cells) y)

  -- then 15 and 16
  module _ (r : Answer) (sized : r ≡ asked_to9 g e cells levels f k a l w accepted) where
    pub sized_no : (r.number ≡ 0 → ⊥) → r ≡ asked_to16 g e cells levels f k a l w accepted
    sized_no n = answered_no (before_15 e cells levels g f k a l w) sized n (ask_entries e cells levels accepted)

    pub one_length : r.number ≡ 0 → length levels ≡ length cells
    one_length z = (passed (before_15 e cells levels g f k a l w) sized z).fact.1

    pub entries_asked : r.number ≡ 0 → (s : Answer) → s ≡ ask_entries e cells levels accepted →
        s ≡ asked_to16 g e cells levels f k a l w accepted
    entries_asked z s q = q ∙ answered_yes (before_15 e cells levels g f k a l w) sized z (ask_entries e cells levels accepted)

  -- and 18
  module _ (r : Answer) (asked : r ≡ asked_to16 g e cells levels f k a l w accepted) where
    -- what a yes to all of these says
    pub record Passed16 : Type 0 where
      pub sizes : Measured g f k a l w
      pub given : length e ≡ size g
      pub pairs : length levels ≡ length cells
      pub none_bad : first_bad_entry e cells levels ≡ length cells

    pub passed_16 : r.number ≡ 0 → Passed16
    passed_16 z =
        let yes = (passed (before_18 e cells levels g f k a l w) asked z).fact in
        record {
          sizes = measured g (length e) f k a l w yes.0.0;
          given = yes.0.0.inputs_have.0;
          pairs = yes.0.1;
          none_bad = yes.1;
        }

    -- a no stands, and after a yes the answer is that to 18 of the opened sheet
    check_no : (r.number ≡ 0 → ⊥) → r ≡ culverts_check g e cells levels f k a l w
    unfolding culverts_check
    check_no n = answered_no (before_18 e cells levels g f k a l w) asked n (ask_reach g (opened e cells levels) accepted)

    check_yes : r.number ≡ 0 → ask_reach g (opened e cells levels) accepted ≡ culverts_check g e cells levels f k a l w
    unfolding culverts_check
    check_yes z = answered_yes (before_18 e cells levels g f k a l w) asked z (ask_reach g (opened e cells levels) accepted)

module _ (g : Grid) (e : List ℤ) (cells : List ℕ) (levels f₀ : List ℤ) (k₀ a₀ l₀ w₀ : List ℕ) (r : Located)
    (asked : of_located r ≡ asked_to16 g e cells levels (length f₀) (length k₀) (length a₀) (length l₀) (length w₀) accepted) where
  -- a no: every list as at entry
  pub promise_of_no : (r.number ≡ 0 → ⊥) → CulvertsPromise g e cells levels f₀ f₀ k₀ k₀ a₀ a₀ l₀ l₀ w₀ w₀ r
  promise_of_no n =
      record {
        answer = check_no g e cells levels _ _ _ _ _ (of_located r) asked n;
        four = four_of_no g (opened e cells levels) f₀ f₀ k₀ a₀ l₀ (of_located r) n refl;
        work = record { same_length = refl; untouched = λ _. refl };
      }

  -- a yes: what is answered to 18 is the answer, with the four results of the opened sheet
  pub promise_of_yes : r.number ≡ 0 → (f₁ : List ℤ) (k₁ a₁ l₁ w₁ : List ℕ) (s : Answer) → s ≡ ask_reach g (opened e cells levels) accepted →
      FourResults g (opened e cells levels) f₀ f₁ k₀ k₁ a₀ a₁ l₀ l₁ s → length w₁ ≡ length w₀ → (t : Located) → of_located t ≡ s →
      CulvertsPromise g e cells levels f₀ f₁ k₀ k₁ a₀ a₁ l₀ l₁ w₀ w₁ t
  promise_of_yes z f₁ k₁ a₁ l₁ w₁ s q four same t is =
      record {
        answer = is ∙ q ∙ check_yes g e cells levels _ _ _ _ _ (of_located r) asked z;
        four = subst (FourResults g (opened e cells levels) f₀ f₁ k₀ k₁ a₀ a₁ l₀ l₁) (sym is) four;
        work = record {
          same_length = same;
          untouched = λ u. absurd (subst Late (sym (is ∙ q)) (reach_late g (opened e cells levels) accepted yes_late) u);
        };
      }

-- From the answers to the questions to the promise of the call: e are the elevations, c₀ the codes at entry, w₀ the work buffer.
use mathlib.Core.Path.{◌≡◌, refl, sym, ◌∙◌, ap, subst}
use mathlib.Core.Bool.{cond, ◌&&◌}
use mathlib.Core.List.{List, [], ◌∷◌}
use Prim.Native.Nat.{ℕ, ◌*◌, ◌^◌, ◌≤◌, ◌<◌}
use native.Mathlib.Omega.{arith}
use lib.Dec.{eqb}
use lib.ListN.{length, get_or}
use lib.IntN.{ℤ}
use borrow.Author.Tests.{eq-eqb, ne_eqb}
use Rattle.grid.specs.declared.Grid.{Grid}
use Rattle.grid.specs.declared.Answer.{Answer}
use Rattle.grid.specs.Sheet.{size, is_data}
use Rattle.grid.specs.Directions.{levels, directions, first_unlevelled}
use Rattle.grid.specs.Checks.{refusal, accepted, is_accepted, ask_cell, ask_flow, ask_work, ask_reach, directions_check}
use Rattle.grid.specs.Promises.{DirectionsPromise}
use Rattle.grid_laws.proofs.Tests.{T_true, true_false, cond_true, cond_false}
use Rattle.grid_laws.proofs.Below.{first_≤}
use Rattle.checks.proofs.Gate.{Gate, kept, passed, answered_no, answered_yes, is_accepted_lem}
use Rattle.shape_laws.specs.Shaped.{Shaped}
use Rattle.checks.proofs.Asked.{FlowSized, flow_check_gate, one_flow_result}
use Rattle.checks.proofs.Questions.{cell_no, cell_yes, reach_yes, reach_above, reach_late, Late, number_late, yes_is_late}
use Rattle.guarantee_laws.proofs.Gaps.{gaps_aside}
use Rattle.directions.proofs.Reached.{levelled_reach}

unlevelled_≤ : (g : Grid) (e : List ℤ) → first_unlevelled g e ≤ size g
unfolding first_unlevelled
unlevelled_≤ g e = first_≤ (size g) (λ c. is_data e c && eqb (get_or (levels g e) c 0) 0)

module _ (g : Grid) (e : List ℤ) (c₀ w₀ : List ℕ) (r : Answer)
    (asked : r ≡ ask_flow g (length e ∷ []) (length c₀ ∷ length c₀ ∷ length c₀ ∷ length c₀ ∷ []) (ask_work g (length w₀) accepted)) where
  -- what 18 and 10 are asked after
  before_18 : Gate (λ later. ask_flow g (length e ∷ []) (length c₀ ∷ []) (ask_work g (length w₀) later))
      (FlowSized g (length e ∷ []) (length c₀ ∷ []) (length w₀))
  before_18 = flow_check_gate g (length e ∷ []) (length c₀ ∷ []) (length w₀)

  answered : r ≡ ask_flow g (length e ∷ []) (length c₀ ∷ []) (ask_work g (length w₀) accepted)
  answered = asked ∙ one_flow_result g (length e) (length c₀) (ask_work g (length w₀) accepted)

  pub refused_promise : (r.number ≡ 0 → ⊥) → DirectionsPromise g e c₀ c₀ w₀ w₀ r
  unfolding directions_check
  refused_promise n =
      record {
        answer = answered_no before_18 answered n _;
        result = kept n (directions g e);
        work = record { same_length = refl; untouched = λ _. refl };
        gaps = λ t. true_false (T_true (is_accepted r) t) (ne_eqb r.number 0 n);
      }

  pub accepted_sizes : r.number ≡ 0 → (size g < 2 ^ 24) × (length e ≡ size g) × (length c₀ ≡ size g) × (4 * size g ≤ length w₀)
      × (g.cols < 2 ^ 24) × Shaped g
  accepted_sizes z =
      let s = (passed before_18 answered z).fact in
      let c = s.fits.cells in
      let k = s.fits.cols_high in
      (omega arith, s.inputs_have.0, s.results_have.0, s.room, omega arith, s.shaped)

  module _ (z : r.number ≡ 0) (first : ℕ) (place : first ≡ first_unlevelled g e) (c₁ w₁ : List ℕ)
      (codes : c₁ ≡ cond (eqb first (size g)) (directions g e) c₀) (same : length w₁ ≡ length w₀) where
    -- 18, or 10: some data cell has no level
    pub lacking_promise : first < length e → (a : Answer) → a ≡ ask_reach g e (refusal 10 first) → DirectionsPromise g e c₀ c₁ w₀ w₁ a
    unfolding directions_check
    lacking_promise h a q =
        let s = (accepted_sizes z).1 in
        let other : first ≡ size g → ⊥ = (λ q. omega arith) in
        let no : ask_reach g e (refusal 10 first) ≡ ask_reach g e (ask_cell 10 g (first_unlevelled g e) accepted) =
        ap (ask_reach g e) (ap (refusal 10) place
        ∙ sym (cell_no 10 (first_unlevelled g e) g accepted (let p = place in omega arith))) in
        record {
          answer = q ∙ no ∙ answered_yes before_18 answered z (ask_reach g e (ask_cell 10 g (first_unlevelled g e) accepted));
          result =
              codes ∙ cond_false (directions g e) c₀ (ne_eqb first (size g) other)
              ∙ sym (cond_false (directions g e) c₀ (ne_eqb a.number 0 (subst Above (sym q) above)));
          work = record { same_length = same; untouched = λ t. absurd (subst Late (sym q) (reach_late g e (refusal 10 first) late_10) t) };
          gaps = λ t. true_false (T_true (is_accepted a) t) (ne_eqb a.number 0 (subst Above (sym q) above));
        }
      where
        Above : Answer → Type 0
        Above a = a.number ≡ 0 → ⊥

        above : Above (ask_reach g e (refusal 10 first))
        above = reach_above g e (refusal 10 first) (λ q. omega arith)

        late_10 : Late (refusal 10 first)
        late_10 = number_late 10 tt

    -- where every data cell has a level, none is stranded
    pub accepted_promise : length e ≤ first → DirectionsPromise g e c₀ c₁ w₀ w₁ r
    unfolding directions_check
    accepted_promise k =
        let s = (accepted_sizes z).1 in
        let b = unlevelled_≤ g e in
        let h : first ≡ size g = omega arith in
        let levelled : first_unlevelled g e ≡ size g = sym place ∙ h in
        record {
          answer =
              is_accepted_lem before_18 answered z
              ∙ sym (cell_yes 10 (first_unlevelled g e) g accepted levelled)
              ∙ sym (reach_yes g e (ask_cell 10 g (first_unlevelled g e) accepted) (levelled_reach g e s levelled))
              ∙ answered_yes before_18 answered z (ask_reach g e (ask_cell 10 g (first_unlevelled g e) accepted));
          result =
              codes
              ∙ cond_true (directions g e) c₀ (eq-eqb first (size g) h)
              ∙ sym (cond_true (directions g e) c₀ (eq-eqb r.number 0 z));
          work = record { same_length = same; untouched = λ t. absurd (yes_is_late z t) };
          gaps = λ t. rw (codes ∙ cond_true (directions g e) c₀ (eq-eqb first (size g) h)) (gaps_aside g e e (λ c. refl) s);
        }

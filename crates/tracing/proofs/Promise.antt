-- From the answers to the questions to the promises of `hand_in` and `run`: w₀ and w₁ are the work buffer, s the state at entry.
use mathlib.Core.Path.{◌≡◌, refl, sym, ◌∙◌, ap, subst}
use mathlib.Core.Bool.{not}
use mathlib.Core.List.{List, [], ◌∷◌}
use Prim.Native.Nat.{ℕ, ◌<◌}
use native.Mathlib.Omega.{arith}
use lib.Dec.{ltb}
use lib.ListN.{length}
use borrow.Author.Tests.{eq-eqb, ne_eqb}
use Rattle.grid.specs.declared.Grid.{Grid}
use Rattle.grid.specs.declared.Answer.{Answer}
use Rattle.grid.specs.Sheet.{size}
use Rattle.grid.specs.Routes.{has_code, first_bad_code, first_endless}
use Rattle.grid.specs.Checks.{accepted, refusal, ask_sheets, ask_work, ask_codes}
use Rattle.grid.specs.Crews.{has_trace, ask_trace, hand_in_check, handed_in, first_lost, ask_lost, run_check, turns}
use Rattle.grid.specs.Promises.{result_of, WorkBuffer, HandInPromise, RunPromise}
use Rattle.grid_laws.proofs.Tests.{cond_true, cond_false}
use Rattle.checks.proofs.Gate.{Gate, both, kept, passed, answered_no, answered_yes, is_accepted_lem}
use Rattle.checks.proofs.Asked.{Sized, check_gate}
use Rattle.checks.proofs.Questions.{codes_gate, Late, number_late, yes_late, ask_late}
use Rattle.receivers.proofs.Codes.{all_codes}
use Rattle.code_check.specs.Asked.{CodesAsked}
use Rattle.crew_laws.specs.Standing.{OnSheet, Standing}
use Rattle.crew_laws.proofs.Keeps.{standing_of}

-- ---- 21 to 23 are asked when the work buffer may be written
trace_late : (codes : List ℕ) (crew cell : ℕ) (s : List ℕ) → Late (ask_trace codes crew cell s accepted)
unfolding ask_trace
trace_late codes crew cell s =
    ask_late (ltb crew 32) 21 0 _ tt
    (ask_late (not (has_trace s crew)) 22 0 _ tt
    (ask_late (has_code codes cell) 23 0 _ tt yes_late))

module _ (g : Grid) (codes w₀ w₁ : List ℕ) (r : Answer) (asked : CodesAsked g codes w₀ w₁ r) where
  -- what the crews' questions are asked after
  before_21 : Gate (λ later. ask_sheets g (length codes ∷ []) [] (ask_work g (length w₀) (ask_codes g codes later)))
      (Sized g (length codes ∷ []) [] (length w₀) × ((first_bad_code g codes ≡ size g) × (first_endless g codes ≡ size g)))
  before_21 = both (check_gate g (length codes ∷ []) [] (length w₀)) (codes_gate g codes)

  pub refused_hand_in : (crew cell : ℕ) (s : List ℕ) → (r.number ≡ 0 → ⊥) → HandInPromise g codes crew cell s s w₀ w₁ r
  unfolding hand_in_check
  refused_hand_in crew cell s n =
      record {
        answer = answered_no before_21 asked.answer n (ask_trace codes crew cell s accepted);
        state = kept n (handed_in s crew cell);
        work = asked.work;
      }

  pub refused_run : (n : ℕ) (s : List ℕ) → (r.number ≡ 0 → ⊥) → RunPromise g codes n s s w₀ w₁ r
  unfolding run_check
  refused_run n s f =
      record {
        answer = answered_no before_21 asked.answer f (ask_lost codes s accepted);
        state = kept f (turns g codes n s);
        work = asked.work;
      }

  module _ (yes : r.number ≡ 0) where
    pub on_sheet : OnSheet g codes
    on_sheet =
        let f = (passed before_21 asked.answer yes).fact in
        let l = f.0.inputs_have.0 in
        let b = f.0.fits.cells in
        record { few = omega arith; long = l; all = all_codes g codes l f.1.0 }

    -- the work buffer beside a no above 9
    late_work : (number : ℕ) → Late (refusal number 0) → WorkBuffer number w₀ w₁
    late_work number L = record { same_length = asked.work.same_length; untouched = λ t. absurd (L t) }

    pub answered_hand_in : (crew cell : ℕ) (s t : List ℕ) (a : Answer) → a ≡ ask_trace codes crew cell s accepted →
        t ≡ result_of a (handed_in s crew cell) s → HandInPromise g codes crew cell s t w₀ w₁ a
    unfolding hand_in_check
    answered_hand_in crew cell s t a e q =
        record {
          answer = e ∙ answered_yes before_21 asked.answer yes (ask_trace codes crew cell s accepted);
          state = q;
          work = late_work a.number (subst Late (sym e) (trace_late codes crew cell s));
        }

    -- ---- a run: a crew that is lost, the first, or none
    module _ (n : ℕ) (s : List ℕ) where
      pub lost_run : (lost : ℕ) → lost < 32 → lost ≡ first_lost codes s → RunPromise g codes n s s w₀ w₁ (refusal 23 lost)
      unfolding run_check ask_lost
      lost_run lost h is =
          record {
            answer =
                ap (refusal 23) is
                ∙ sym (cond_false accepted (refusal 23 (first_lost codes s))
                (ne_eqb (first_lost codes s) 32 (λ e. let z : ⊥ = omega arith in z)))
                ∙ answered_yes before_21 asked.answer yes (ask_lost codes s accepted);
            state = refl;
            work = late_work 23 (number_late 23 tt);
          }

      module _ (nobody : first_lost codes s ≡ 32) where
        pub standing : Standing codes s
        standing = standing_of codes s nobody

        pub answered_run : (t : List ℕ) → t ≡ turns g codes n s → RunPromise g codes n s t w₀ w₁ r
        unfolding run_check ask_lost
        answered_run t q =
            record {
              answer =
                  is_accepted_lem before_21 asked.answer yes
                  ∙ sym (cond_true accepted (refusal 23 (first_lost codes s)) (eq-eqb (first_lost codes s) 32 nobody))
                  ∙ answered_yes before_21 asked.answer yes (ask_lost codes s accepted);
              state = q ∙ sym (cond_true (turns g codes n s) s (eq-eqb r.number 0 yes));
              work = asked.work;
            }

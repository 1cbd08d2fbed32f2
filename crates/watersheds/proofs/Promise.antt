-- From the answers to the questions to the promise of the call: k₀ is the result list at entry, w₀ the work buffer.
use mathlib.Core.Path.{◌≡◌, refl, sym, ◌∙◌, subst}
use mathlib.Core.List.{List, [], ◌∷◌}
use Prim.Native.Nat.{ℕ, ◌*◌, ◌≤◌}
use lib.ListN.{length}
use Rattle.grid.specs.declared.Grid.{Grid}
use Rattle.grid.specs.declared.Answer.{Answer}
use Rattle.grid.specs.Sheet.{size}
use Rattle.grid.specs.Routes.{watersheds, first_bad_start, first_repeat}
use Rattle.grid.specs.Checks.{accepted, ask_sheets, ask_work, ask_cell, watersheds_check}
use Rattle.grid.specs.Promises.{result_of, WatershedsPromise}
use Rattle.checks.specs.Sizes.{Fits}
use Rattle.checks.proofs.Gate.{Gate, kept, passed, answered_no, answered_yes}
use Rattle.checks.proofs.Asked.{Sized, check_gate, two_inputs}
use Rattle.checks.proofs.Questions.{Late, yes_late, cell_late, codes_late}
use Rattle.watershed_walk.proofs.Asking.{routes_check}

-- rows, columns and every length as the call wants them
pub record Sizes (g : Grid) (codes starts k₀ w₀ : List ℕ) : Type 0 where
  pub fits : Fits g
  pub codes_long : length codes ≡ size g
  pub starts_long : length starts ≡ size g
  pub result_long : length k₀ ≡ size g
  pub room : 4 * size g ≤ length w₀

module _ (g : Grid) (codes starts k₀ w₀ : List ℕ) (r : Answer)
    (asked : r ≡ ask_sheets g (length codes ∷ length starts ∷ []) (length k₀ ∷ length k₀ ∷ length k₀ ∷ length k₀ ∷ [])
    (ask_work g (length w₀) accepted)) where
  -- what 11 to 13 and 24 are asked after
  before_11 : Gate (λ later. ask_sheets g (length codes ∷ length starts ∷ []) (length k₀ ∷ []) (ask_work g (length w₀) later))
      (Sized g (length codes ∷ length starts ∷ []) (length k₀ ∷ []) (length w₀))
  before_11 = check_gate g (length codes ∷ length starts ∷ []) (length k₀ ∷ []) (length w₀)

  answered : r ≡ ask_sheets g (length codes ∷ length starts ∷ []) (length k₀ ∷ []) (ask_work g (length w₀) accepted)
  answered = asked ∙ two_inputs g (length codes) (length starts) (length k₀) (ask_work g (length w₀) accepted)

  pub refused_promise : (r.number ≡ 0 → ⊥) → WatershedsPromise g codes starts k₀ k₀ w₀ w₀ r
  unfolding watersheds_check
  refused_promise n =
      record {
        answer = answered_no before_11 answered n (routes_check g codes starts);
        result = kept n (watersheds g codes starts);
        work = record { same_length = refl; untouched = λ _. refl };
      }

  module _ (yes : r.number ≡ 0) where
    pub sizes : Sizes g codes starts k₀ w₀
    sizes =
        let s = (passed before_11 answered yes).fact in
        record {
          fits = s.fits;
          codes_long = s.inputs_have.0;
          starts_long = s.inputs_have.1.0;
          result_long = s.results_have.0;
          room = s.room;
        }

    pub answered_promise : (a : Answer) (k₁ w₁ : List ℕ) → a ≡ routes_check g codes starts →
        k₁ ≡ result_of a (watersheds g codes starts) k₀ → length w₁ ≡ length w₀ → WatershedsPromise g codes starts k₀ k₁ w₀ w₁ a
    unfolding watersheds_check
    answered_promise a k₁ w₁ e q same =
        record {
          answer = e ∙ answered_yes before_11 answered yes (routes_check g codes starts);
          result = q;
          work = record { same_length = same; untouched = λ t. absurd (subst Late (sym e) late t) };
        }
      where
        late : Late (routes_check g codes starts)
        late =
            codes_late g codes _ (cell_late 13 (first_bad_start g codes starts) g (ask_cell 24 g (first_repeat g starts) accepted) tt
            (cell_late 24 (first_repeat g starts) g accepted tt yes_late))

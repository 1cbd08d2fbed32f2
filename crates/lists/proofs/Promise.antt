-- From the answers to 5, 6 and 19 to what the call promises.
use mathlib.Core.Path.{◌≡◌, sym, ◌∙◌, ap}
use mathlib.Core.List.{List}
use Prim.Native.Nat.{ℕ, ◌<◌, ◌≤◌}
use native.Mathlib.Omega.{arith}
use lib.ListN.{length}
use borrow.Author.Tests.{eq-eqb, ne_eqb}
use Rattle.grid.specs.declared.Grid.{Grid}
use Rattle.grid.specs.declared.Answer.{Answer}
use Rattle.grid.specs.Checks.{refusal, accepted, ask_size}
use Rattle.grid.specs.Endings.{is_stray, first_stray, ask_list, ending_check}
use Rattle.grid_laws.proofs.Tests.{cond_true, cond_false}
use Rattle.grid_laws.proofs.Below.{first_≤}
use Rattle.checks.specs.Sizes.{Fits}
use Rattle.checks.proofs.Gate.{passed, answered_no, answered_yes}
use Rattle.checks.proofs.Asked.{size_gate}

module _ (g : Grid) (l : List ℕ) (later : Answer) where
  stray_no : (i : ℕ) → i ≡ first_stray g l → i < length l → refusal 19 i ≡ ask_list g l later
  unfolding ask_list
  stray_no i e h = ap (refusal 19) e ∙ sym (cond_false _ _ (ne_eqb (first_stray g l) (length l) (λ q. let z : ⊥ = omega arith in z)))

  stray_yes : (i : ℕ) → i ≡ first_stray g l → length l ≤ i → later ≡ ask_list g l later
  unfolding ask_list first_stray
  stray_yes i e h = let k = first_≤ (length l) (is_stray g l) in sym (cond_true _ _ (eq-eqb (first_stray g l) (length l) (omega arith)))

module _ (g : Grid) (first second : List ℕ) (r : Answer) (asked : r ≡ ask_size g accepted) where
  pub bad_size : (r.number ≡ 0 → ⊥) → r ≡ ending_check g first second
  unfolding ending_check
  bad_size n = answered_no (size_gate g) asked n (ask_list g first (ask_list g second accepted))

  module _ (yes : r.number ≡ 0) where
    pub fits : Fits g
    fits = (passed (size_gate g) asked yes).fact

    by_lists : ask_list g first (ask_list g second accepted) ≡ ending_check g first second
    unfolding ending_check
    by_lists = answered_yes (size_gate g) asked yes (ask_list g first (ask_list g second accepted))

    pub bad_first : (i : ℕ) → i ≡ first_stray g first → i < length first → refusal 19 i ≡ ending_check g first second
    bad_first i e h = stray_no g first (ask_list g second accepted) i e h ∙ by_lists

    module _ (i : ℕ) (e : i ≡ first_stray g first) (h : length first ≤ i) where
      pub bad_second : (j : ℕ) → j ≡ first_stray g second → j < length second → refusal 19 j ≡ ending_check g first second
      bad_second j f k = stray_no g second accepted j f k ∙ stray_yes g first (ask_list g second accepted) i e h ∙ by_lists

      pub none_bad : (j : ℕ) → j ≡ first_stray g second → length second ≤ j → accepted ≡ ending_check g first second
      none_bad j f k = stray_yes g second accepted j f k ∙ stray_yes g first (ask_list g second accepted) i e h ∙ by_lists

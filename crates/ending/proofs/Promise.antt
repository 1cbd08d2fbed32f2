-- From the answer about the lists, and the walk back, to what the call promises of the part; and the part by its place in the first list.
use mathlib.Core.Path.{◌≡◌, refl, sym, ◌∙◌, ap, subst}
use mathlib.Core.Bool.{true, false}
use mathlib.Core.Logic.{⊎_elim}
use mathlib.Core.List.{List, [], append-nil}
use Prim.Native.Nat.{ℕ, ◌-◌, ◌≤◌}
use native.Mathlib.Omega.{arith}
use lib.ListN.{length}
use borrow.Author.Tests.{eq-eqb, ne_eqb}
use Rattle.std.specs.Prelude.{Result, Ok, Err}
use Rattle.std.specs.Result.{is_err}
use Rattle.grid.specs.declared.Grid.{Grid}
use Rattle.grid.specs.declared.Located.{Located}
use Rattle.grid.specs.Checks.{is_accepted}
use Rattle.grid.specs.Endings.{ending_check, shared_ending, EndsWith, LongestShared, Joins}
use Rattle.grid.specs.Promises.{ListsPromise, SharedPart, PartPromise}
use Rattle.grid_laws.proofs.Tests.{test, T_true, true_false, cond_true, cond_false}
use Rattle.ending_laws.proofs.Longest.{is_longest, apart_none, ending_is_rest}
use Rattle.ending_laws.proofs.Joining.{all_routes_join}
use Rattle.refusals.specs.declared.Refusal.{Refusal}
use Rattle.refusals.specs.Answers.{located_of}
use Rattle.refusals.proofs.Answers.{is_no}

pub err_no : {A : Type 0} (r : Result A (Refusal ℕ)) → is_err r ≡ true → (located_of r).number ≡ 0 → ⊥
err_no (Ok _) e = true_false e refl
err_no (Err r) _ = is_no r

pub ok_yes : {A : Type 0} (r : Result A (Refusal ℕ)) → is_err r ≡ false → (located_of r).number ≡ 0
ok_yes (Ok _) _ = refl
ok_yes (Err _) e = true_false refl e

module _ (g : Grid) (first second : List ℕ) (r : Located) (checked : ListsPromise g first second r) where
  -- lists that are refused are no whole routes on an accepted sheet
  pub refused_part : (r.number ≡ 0 → ⊥) → (part : List ℕ) → part ≡ [] → SharedPart g first second part
  refused_part n part e =
      let no = ap is_accepted (sym checked.answer) ∙ ne_eqb r.number 0 n in
      record {
        cells = e ∙ sym (cond_false _ _ no);
        longest = λ t. true_false (T_true _ t) no;
        apart = λ _. e;
        routes = λ codes t a b p q.
            true_false (rw (sym p, sym q) at (ap is_accepted (all_routes_join g codes t a b).accepts)) no;
      }

  pub accepted_part : r.number ≡ 0 → (part : List ℕ) → part ≡ shared_ending first second → SharedPart g first second part
  accepted_part z part e =
      let yes = ap is_accepted (sym checked.answer) ∙ eq-eqb r.number 0 z in
      let longest = is_longest first second in
      record {
        cells = e ∙ sym (cond_true _ _ yes);
        longest = λ _. subst (LongestShared first second) (sym e) longest;
        apart = λ a. e ∙ apart_none first second (shared_ending first second) longest.ends_first longest.ends_second a;
        routes = λ codes t a b p q.
            let join = all_routes_join g codes t a b in (
              subst (Joins first second) (sym e) (rw (sym p, sym q) at join.on_first),
              subst (Joins second first) (sym e) (rw (sym p, sym q) at join.on_second),
            );
      }

module _ (g : Grid) (first second part : List ℕ) (shared : SharedPart g first second part) where
  ends_first : EndsWith first part
  ends_first =
      ⊎_elim
      (λ y. subst (EndsWith first) (sym (shared.cells ∙ cond_true _ _ y)) (is_longest first second).ends_first)
      (λ n. subst (EndsWith first) (sym (shared.cells ∙ cond_false _ _ n)) (first, append-nil first))
      (test (is_accepted (ending_check g first second)))

  pub part_fits : length part ≤ length first
  part_fits = (ending_is_rest ends_first).0

  pub by_place : PartPromise g first second (record { at = length first - length part; count = length part })
  by_place =
      let h = part_fits in
      record {
        shared = subst (SharedPart g first second) (sym (ending_is_rest ends_first).1) shared;
        to_the_end = omega arith;
      }

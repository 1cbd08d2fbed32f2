-- Zeros begin; what the calls promise is what the operations do; a refused one does nothing.
use mathlib.Core.Path.{◌≡◌, refl, ◌∙◌, ap}
use mathlib.Core.Bool.{Bool, true, false, cond}
use mathlib.Core.List.{List}
use Prim.Native.Nat.{ℕ, ◌<◌}
use native.Mathlib.Omega.{arith}
use lib.Dec.{ltb}
use lib.ListN.{length, get_or, length-replicate, get_or-replicate}
use Rattle.grid.specs.declared.Answer.{Answer}
use Rattle.grid.specs.Checks.{is_accepted, of_collected}
use Rattle.grid.specs.Crews.{is_finished, is_on_way, has_trace, turns, handed_in, collected, freed}
use Rattle.grid.specs.Operations.{Operation, run, hand_in, collect, answer_to, after, turns_in, CallsAreOperations}
use Rattle.grid.specs.Operations.{zeros, ZerosBegin, RefusedDoesNothing}
use Rattle.grid_laws.proofs.Tests.{true_false, cond_false}
use Rattle.crew_laws.proofs.Changes.{freed_off}
use Rattle.crew_laws.proofs.Collect.{answered}

zeros_at : (i : ℕ) → i < 66 → get_or zeros i 0 ≡ 0
zeros_at i h = get_or-replicate 66 i 0 0 h

pub zeros_begin : ZerosBegin
unfolding has_trace is_on_way is_finished
zeros_begin =
    record {
      no_traces = record { long = length-replicate {A = ℕ} 66 0; none = λ k h. rw (zeros_at k (omega arith)) };
      first_crew = refl;
      no_total = refl;
    }

pub calls_are_operations : CallsAreOperations
unfolding answer_to after
calls_are_operations =
    record {
      hands_in = λ g codes crew cell s t w v r p. (
        p.answer,
        p.state ∙ ap (λ (a : Answer). cond (is_accepted a) (handed_in s crew cell) s) p.answer,
      );
      runs = λ g codes n s t w v r p. (p.answer, p.state ∙ ap (λ (a : Answer). cond (is_accepted a) (turns g codes n s) s) p.answer);
      collects = λ g codes crew s t r p. (p.answer, p.state);
    }

-- the answer to a collection is a no only for a crew that is none
collect_refused : (s : List ℕ) (k : ℕ) → is_accepted (of_collected (collected s k)) ≡ false → ltb k 32 ≡ false
unfolding collected
collect_refused s k e = go (ltb k 32) (is_finished s k) (is_on_way s k) e
  where
    go : (t u v : Bool) → is_accepted (of_collected (answered s k t u v)) ≡ false → t ≡ false
    go true true v z = true_false refl z
    go true false v z = true_false refl z
    go false u v z = refl

pub refused_does_nothing : RefusedDoesNothing
unfolding answer_to after turns_in
refused_does_nothing g codes s (run work n) e = (cond_false _ _ e, cond_false _ _ e)
refused_does_nothing g codes s (hand_in work crew cell) e = (cond_false _ _ e, refl)
refused_does_nothing g codes s (collect crew) e = (freed_off s crew (collect_refused s crew e), refl)

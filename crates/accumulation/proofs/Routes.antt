-- The marks at the front of a tail are a flow along its routes, so the laws of counts speak of what the pass leaves.
use mathlib.Core.Path.{◌≡◌, sym, ◌∙◌, ap, subst}
use mathlib.Core.List.{List}
use mathlib.Core.Bool.{true}
use Prim.Native.Nat.{ℕ, ◌≤◌, ◌<◌}
use native.Mathlib.Omega.{arith}
use lib.ListN.{length, take}
use Rattle.route_laws.specs.Ends.{first_unending}
use Rattle.route_laws.specs.Receivers.{next_in, live_in, Marks}
use Rattle.route_laws.specs.Walking.{live_at, next_at, Walked}
use Rattle.route_laws.proofs.Receivers.{mark_at_lem, live_of_lem, live_below}
use Rattle.count_laws.specs.Inflow.{Flow}
use Rattle.count_laws.specs.Passing.{undone}
use Rattle.count_laws.proofs.Ended.{done_counts, done_none_endless, left_some_endless}
use Rattle.accumulation.specs.Tail.{mark_at, word_at, Roomy, Accumulated, Counted}

pub tail_flow : (n : ℕ) (t : List ℕ) → n ≤ length t → Marks n (take n t) → Flow n (live_at n t) (next_at n t) (mark_at t)
tail_flow n t long M =
    record {
      on_sheet = live_below n (take n t) M.long;
      into =
          λ d c l h e.
          let q : next_at n t d ≡ c = mark_at_lem n t d l long ∙ e in
          (live_of_lem n (take n t) d (omega arith), q, subst (λ (x : ℕ). live_at n t x ≡ true) q (M.on d (omega arith)));
      from = λ d t₁ u. sym (mark_at_lem n t d (live_below n (take n t) M.long d t₁) long);
    }

pub all_counted : (n : ℕ) (t₀ t₁ : List ℕ) (left : ℕ) → Roomy n t₀ → Marks n (take n t₀) → Accumulated n t₀ t₁ left → left ≡ 0 →
    Counted n t₀ t₁ n
all_counted n t₀ t₁ left R M A e =
    let F = tail_flow n t₀ (let a = R.long in omega arith) M in
    let z : undone n (word_at n t₁) ≡ 0 = sym A.between.counted ∙ e in
    record {
      first = sym (done_none_endless F (word_at n t₁) A.between.passing z);
      same_marks = λ q. A.between.kept.same_marks;
      counts = λ q. done_counts F (word_at n t₁) A.between.passing z;
    }

pub long_after : (n : ℕ) (t₀ t₁ : List ℕ) (left : ℕ) → Roomy n t₀ → Accumulated n t₀ t₁ left → n ≤ length t₁
long_after n t₀ t₁ left R A = let a = R.long in let b = A.between.kept.same_length in omega arith

pub marks_after : (n : ℕ) (t₀ t₁ : List ℕ) (left : ℕ) → Accumulated n t₀ t₁ left → Marks n (take n t₀) → Marks n (take n t₁)
marks_after n t₀ t₁ left A M = subst (λ (x : List ℕ). Marks n x) (sym A.between.kept.same_marks) M

pub some_endless : (n : ℕ) (t₀ t₁ t₂ : List ℕ) (left r : ℕ) → Roomy n t₀ → Marks n (take n t₀) → Accumulated n t₀ t₁ left →
    (left ≡ 0 → ⊥) → Walked n t₁ t₂ r → Counted n t₀ t₂ r
some_endless n t₀ t₁ t₂ left r R M A f W =
    let F = tail_flow n t₀ (let a = R.long in omega arith) M in
    let q = A.between.counted in
    let l = left_some_endless F (word_at n t₁) A.between.passing (let z : 0 < undone n (word_at n t₁) = omega arith in z) A.settled in
    let e : r ≡ first_unending (live_at n t₀) (next_at n t₀) n =
    W.first ∙ ap (λ (x : List ℕ). first_unending (live_in n x) (next_in n x) n) A.between.kept.same_marks in
    record {
      first = e;
      same_marks = λ p. let z : ⊥ = omega arith in absurd z;
      counts = λ p. let z : ⊥ = omega arith in absurd z;
    }

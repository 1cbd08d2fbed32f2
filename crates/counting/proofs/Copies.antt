-- What the counts are, by whether every route ends.
use mathlib.Core.Path.{◌≡◌, sym, ◌∙◌}
use mathlib.Core.List.{List}
use Prim.Native.Nat.{ℕ, ◌≤◌, ◌<◌}
use native.Mathlib.Omega.{arith}
use borrow.Author.Tests.{eq-eqb, ne_eqb}
use Rattle.grid.specs.Below.{table}
use Rattle.grid_laws.proofs.Tests.{cond_true, cond_false}
use Rattle.grid_laws.proofs.Below.{table_ext, first_≤}
use Rattle.route_laws.specs.Ends.{first_unending}
use Rattle.route_laws.specs.Walking.{live_at, next_at}
use Rattle.count_laws.specs.Inflow.{route_count}
use Rattle.count_laws.specs.Passing.{tally}
use Rattle.accumulation.specs.Tail.{word_at, Counted}
use Rattle.counting.specs.Copied.{CountsOf}

pub no_counts : (n : ℕ) (t₀ t₁ counts₀ : List ℕ) (r : ℕ) → Counted n t₀ t₁ r → r < n → CountsOf n t₀ t₁ counts₀ counts₀ r
no_counts n t₀ t₁ counts₀ r C h =
    record {
      first = C.first;
      same_marks = C.same_marks;
      result = sym (cond_false _ _ (ne_eqb r n (λ e. let z : ⊥ = omega arith in absurd z)));
    }

pub all_counts : (n : ℕ) (t₀ t₁ counts₀ counts₁ : List ℕ) (r : ℕ) → Counted n t₀ t₁ r → n ≤ r →
    counts₁ ≡ table n (λ c. tally (word_at n t₁ c)) → CountsOf n t₀ t₁ counts₀ counts₁ r
unfolding first_unending
all_counts n t₀ t₁ counts₀ counts₁ r C h e =
    let f = C.first in
    let l : first_unending (live_at n t₀) (next_at n t₀) n ≤ n = first_≤ n _ in
    let q : r ≡ n = omega arith in
    record {
      first = f;
      same_marks = C.same_marks;
      result =
          e
          ∙ table_ext n (λ c. tally (word_at n t₁ c)) (route_count (live_at n t₀) (next_at n t₀) n) (C.counts q)
          ∙ sym (cond_true _ _ (eq-eqb r n q));
    }

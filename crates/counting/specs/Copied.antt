-- Counts of the routes of a list of marks.
use Rattle.std.specs.Prelude.{◌≡◌, cond, List, ℕ, eqb, take}
use Rattle.grid.specs.Below.{table}
use Rattle.route_laws.specs.Ends.{first_unending}
use Rattle.route_laws.specs.Walking.{live_at, next_at}
use Rattle.count_laws.specs.Inflow.{route_count}

-- t₀ is the tail at entry, which begins with the marks; r is the first cell whose route does not end, or n
pub record CountsOf (n : ℕ) (t₀ t₁ counts₀ counts₁ : List ℕ) (r : ℕ) : Type 0 where
  pub first : r ≡ first_unending (live_at n t₀) (next_at n t₀) n
  pub same_marks : r ≡ n → take n t₁ ≡ take n t₀
  pub result : counts₁ ≡ cond (eqb r n) (table n (route_count (live_at n t₀) (next_at n t₀) n)) counts₀

-- Labels of the routes of a list of marks.
use Rattle.std.specs.Prelude.{◌≡◌, cond, List, ℕ, eqb}
use Rattle.grid.specs.Below.{table}
use Rattle.route_laws.specs.Ends.{last_mark, first_unending}
use Rattle.route_laws.specs.Walking.{live_at, next_at}

-- t₀ is the tail at entry, which begins with the marks; r is the first cell whose route does not end, or n
pub record LabelsOf (n : ℕ) (t₀ labels₀ labels₁ : List ℕ) (r : ℕ) : Type 0 where
  pub first : r ≡ first_unending (live_at n t₀) (next_at n t₀) n
  pub result : labels₁ ≡ cond (eqb r n) (table n (last_mark (live_at n t₀) (next_at n t₀) n)) labels₀

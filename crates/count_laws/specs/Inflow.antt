-- What flows into a cell, where `mark d` is the cell that d flows into; a mark of n or above is no cell.
use Rattle.std.specs.Prelude.{◌≡◌, Bool, true, not, cond, ◌&&◌, ℕ, ◌+◌, ◌<◌, eqb}
use Rattle.grid.specs.Below.{sum_below, count_below, has}
use Rattle.grid.specs.Routes.{follow}

-- "the number of other cells whose routes contain it"
unfoldable pub route_count : (ℕ → Bool) → (ℕ → ℕ) → ℕ → ℕ → ℕ
route_count live next n c = count_below n (λ d. not (eqb d c) && has c (follow live next n d))

-- the mark of a cell, for cells that are live and flow on to `next`: the next cell of the route, n where the route ends, n + 1 where there
-- is no route
unfoldable pub mark_of : (ℕ → Bool) → (ℕ → ℕ) → ℕ → ℕ → ℕ
mark_of live next n c = cond (live c) (cond (live (next c)) (next c) n) (n + 1)

-- the sum of w over the cells that flow into c
unfoldable pub inflow : ℕ → (ℕ → ℕ) → (ℕ → ℕ) → ℕ → ℕ
inflow n mark w c = sum_below n (λ d. cond (eqb (mark d) c) (w d) 0)

-- what is asked of marks: a mark below n is the next cell of a route, and every step of a route has its mark
pub record Flow (n : ℕ) (live : ℕ → Bool) (next mark : ℕ → ℕ) : Type 0 where
  pub on_sheet : (c : ℕ) → live c ≡ true → c < n
  pub into : (d c : ℕ) → d < n → c < n → mark d ≡ c → (live d ≡ true) × (next d ≡ c) × (live c ≡ true)
  pub from : (d : ℕ) → live d ≡ true → live (next d) ≡ true → mark d ≡ next d

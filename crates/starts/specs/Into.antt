-- What question 12 and the scan leave, when the codes are known to be codes.
use Rattle.std.specs.Prelude.{◌≡◌, List, ℕ}
use Rattle.grid.specs.declared.Grid.{Grid}
use Rattle.grid.specs.declared.Counted.{Counted}
use Rattle.grid.specs.Routes.{first_endless}
use Rattle.grid.specs.Starts.{starts, start_count}
use Rattle.grid.specs.Checks.{accepted, ask_cell, of_counted, reported}
use Rattle.grid.specs.Promises.{result_of}

pub record Started (g : Grid) (codes counts : List ℕ) (threshold : ℕ) (starts₀ starts₁ : List ℕ) (r : Counted) : Type 0 where
  pub answer : of_counted r ≡ ask_cell 12 g (first_endless g codes) accepted
  pub count : r.count ≡ reported (of_counted r) (start_count g codes counts threshold)
  pub result : starts₁ ≡ result_of (of_counted r) (starts g codes counts threshold) starts₀

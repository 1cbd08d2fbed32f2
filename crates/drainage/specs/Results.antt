-- What a yes to questions 5 to 9 says of the buffers of the four results.
use Rattle.std.specs.Prelude.{◌≡◌, List, ℕ, ◌+◌, ◌*◌, ◌≤◌, length}
use Rattle.grid.specs.declared.Grid.{Grid}
use Rattle.grid.specs.Sheet.{size}
use Rattle.grid.specs.Routes as R
use Rattle.route_laws.specs.Receivers.{AllCodes}
use Rattle.shape_laws.specs.Shaped.{Shaped}
use Rattle.checks.specs.Sizes.{Fits}

-- the lengths of the buffers, and the shape of the cells
pub record Measured (g : Grid) (filled codes counts labels work : ℕ) : Type 0 where
  pub fits : Fits g
  pub filled_has : filled ≡ size g
  pub codes_have : codes ≡ size g
  pub counts_have : counts ≡ size g
  pub labels_have : labels ≡ size g
  pub room : 4 * size g ≤ work
  pub shaped : Shaped g

-- codes whose counts and labels can be worked out: 11 and 12 would be answered by yes; and the lengths of the buffers
pub record Routable (g : Grid) (codes : List ℕ) (counts labels tail : ℕ) : Type 0 where
  pub fits : Fits g
  pub long : length codes ≡ size g
  pub all_codes : AllCodes codes
  pub all_end : R.first_endless g codes ≡ size g
  pub counts_have : counts ≡ size g
  pub labels_have : labels ≡ size g
  pub room : size g + size g ≤ tail

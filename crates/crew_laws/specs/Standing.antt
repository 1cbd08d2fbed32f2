-- What the turns of a run go by.
use Rattle.std.specs.Prelude.{◌≡◌, true, List, ℕ, ◌^◌, ◌<◌, length}
use Rattle.grid.specs.declared.Grid.{Grid}
use Rattle.grid.specs.Sheet.{size}
use Rattle.grid.specs.Routes.{has_code}
use Rattle.grid.specs.Crews.{waiting, status_of, stands_on}
use Rattle.route_laws.specs.Receivers.{AllCodes}

-- a sheet of codes, of few cells
pub record OnSheet (g : Grid) (codes : List ℕ) : Type 0 where
  pub few : size g < 2 ^ 24
  pub long : length codes ≡ size g
  pub all : AllCodes codes

-- every trace on its way stands on a cell with a code: the answer to a run's 23 is yes
abbrev pub Standing : List ℕ → List ℕ → Type 0
Standing codes s = (k : ℕ) → k < 32 → status_of s k ≡ waiting → has_code codes (stands_on s k) ≡ true

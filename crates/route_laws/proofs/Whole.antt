-- Whole routes on a sheet of codes, by the number of their cells.
use mathlib.Core.Path.{◌≡◌}
use mathlib.Core.List.{List}
use Prim.Native.Nat.{ℕ}
use lib.ListN.{length}
use Rattle.grid.specs.declared.Grid.{Grid}
use Rattle.grid.specs.Sheet.{size}
use Rattle.grid.specs.Routes.{follow, has_code, receiver, route, first_endless}
use Rattle.route_laws.specs.Ends.{EndsIn, Ends, first_unending}
use Rattle.route_laws.proofs.Routes.{enough, short, all_end}
use Rattle.route_laws.proofs.Receivers.{code_on}

module _ (g : Grid) (codes : List ℕ) (long : length codes ≡ size g) where
  -- after a yes to 12
  pub every_ends : first_endless g codes ≡ size g → (c : ℕ) → Ends (has_code codes) (receiver g codes) c
  unfolding first_endless first_unending
  every_ends e = all_end (has_code codes) (receiver g codes) (size g) (code_on g codes long) e

  pub whole : (c k : ℕ) → EndsIn (has_code codes) (receiver g codes) k c → route g codes c ≡ follow (has_code codes) (receiver g codes) k c
  whole c k e =
      enough (has_code codes) (receiver g codes) k (size g) c e (short (has_code codes) (receiver g codes) (size g) (code_on g codes long) k c e)

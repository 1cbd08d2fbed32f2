-- Where every side is open and no void is a gap, each data cell has a way to an outlet: to the left, until a step leaves the sheet or
-- meets a void.
use mathlib.Core.Path.{◌≡◌, refl}
use mathlib.Core.Logic.{⊎_elim}
use mathlib.Core.Bool.{false}
use mathlib.Core.List.{List}
use Prim.Native.Nat.{ℕ, zero, suc, ◌<◌}
use native.Mathlib.Omega.{arith}
use lib.ListN.{length}
use lib.IntN.{ℤ}
use Rattle.grid.specs.declared.Grid.{Grid}
use Rattle.grid.specs.Sheet.{size, is_data, DataCell, neighbour}
use Rattle.grid.specs.Outlet.{is_outlet, first_stranded}
use Rattle.grid.specs.Gaps.{NoGaps}
use Rattle.grid_laws.proofs.Tests.{test, T_true, true_T}
use Rattle.grid_laws.proofs.Neighbours.{west_lower, neighbour_on, stays_or_off}
use Rattle.grid_laws.proofs.Outlets.{inner_on, inner_data}
use Rattle.join_laws.specs.Ways.{stop, step}
use Rattle.fill_laws.specs.Certificate.{DataNeighbours}
use Rattle.fill_laws.proofs.Paths.{WayOut}
use Rattle.fill_laws.proofs.Reach.{ways_none}

module _ (g : Grid) (zero-sides : g.sides ≡ 0) (e : List ℤ) (none : NoGaps g e) where
  -- one step to the left of a data cell that is no outlet
  left_step : (c : ℕ) → DataCell e c → is_outlet g e c ≡ false → DataNeighbours g e c (neighbour g c 5) × (neighbour g c 5 < c)
  left_step c t f =
      let d = T_true (is_data e c) t in
      let on : neighbour g c 5 ≡ size g → ⊥ = inner_on g zero-sides e c 5 d f (omega arith) in
      let there : neighbour g c 5 < size g =
      ⊎_elim (neighbour_on g c 5 (omega arith)) (λ q. absurd (on q)) (stays_or_off g c 5 (omega arith)) in (
        (t, true_T (inner_data g e c 5 d f (omega arith) there (none (neighbour g c 5))), (5, omega arith, refl)),
        ⊎_elim (λ h. h) (λ q. absurd (on q)) (west_lower g c),
      )

  leftwards : (m c : ℕ) → c < m → DataCell e c → WayOut g e c
  leftwards zero c h t = let z : ⊥ = omega arith in absurd z
  leftwards (suc m) c h t =
      ⊎_elim
      (λ o. stop (true_T o))
      (λ f. let l = left_step c t f in step l.0 (leftwards m (neighbour g c 5) (let k = l.1 in omega arith) l.0.1))
      (test (is_outlet g e c))

  -- so no data cell is stranded
  pub open_reach : length e ≡ size g → first_stranded g e ≡ size g
  open_reach cells-e = ways_none g e cells-e (λ c t. leftwards (suc c) c (omega arith) t)

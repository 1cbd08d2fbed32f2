use native.Mathlib.Omega.{arith}
use Rattle.grid_laws.proofs.Neighbours.{neighbour_≤}
use Rattle.cells.proofs.Raster.near.Goals as goal

-- off the sheet stands rows * cols
pub returns-else-m-self : goal.returns-else-m-self
returns-else-m-self c =
    let a = c.args in
    let here = c.neighbour-m.ensures in
    let far = c.if-m-self.false in
    let most = neighbour_≤ a.self.now.grid a.cell a.p c.requires.p_bound in
    omega arith

use mathlib.Core.Path.{◌≡◌}
use Prim.Native.Nat.{◌+◌, ◌-◌, ◌*◌}
use native.Mathlib.Omega.{arith}
use Rattle.cells.proofs.Rows.{next_row, within_row}
use Rattle.levels.proofs.round_row.Goals as goal

pub run-tail-requires-clause-by_index : goal.run-tail-requires-clause-by_index
run-tail-requires-clause-by_index c =
    let place = c.requires.le_row in
    let wide = place.2 in
    λ t i h k. within_row c.args.t.now.raster.grid c.args.row place.0 place.1 i h (omega arith)

pub returns : goal.returns
returns c =
    let wide = c.requires.le_row.2 in
    let cols = c.args.t.now.raster.grid.cols in
    let next : c.args.row * cols + 1 + (cols - 2) + 2 ≡ (c.args.row + 1) * cols + 1 =
    omega (arith, next_row c.args.t.now.raster.grid c.args.row) in
    rw next at c.run.ensures

use mathlib.Core.Path.{◌≡◌}
use Prim.Native.Nat.{◌+◌, ◌-◌, ◌*◌}
use native.Mathlib.Omega.{arith}
use Rattle.levels.proofs.round_rows.Goals as goal

pub loop-row-init : goal.loop-row-init
loop-row-init c =
    let one : c.args.t.now.raster.grid.cols + 1 ≡ 1 * c.args.t.now.raster.grid.cols + 1 = omega arith in
    rw one at c.run-tail.ensures

pub run-requires-clause-joining : goal.run-requires-clause-joining
run-requires-clause-joining c =
    let tall = c.requires.le_rows.0 in
    let all : c.loop-row.row ≡ c.args.t.now.raster.grid.rows - 1 = omega arith in
    rw all at c.loop-row.invariant

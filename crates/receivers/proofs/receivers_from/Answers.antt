-- The table is made, and all marks are written.
use Prim.Native.Nat.{◌≤◌}
use native.Mathlib.Nat.{mul_comm, le-mul_of_pos_right}
use native.Mathlib.Omega.{arith}
use Rattle.grid.specs.Sheet.{size}
use Rattle.receivers.proofs.receivers_from.Goals as goal

pub reach_table-table-requires : goal.reach_table-table-requires
reach_table-table-requires c =
    let r = c.args.codes.now.rows_bound in
    let l : c.args.codes.now.grid.cols ≤ size c.args.codes.now.grid = rw mul_comm (le-mul_of_pos_right c.args.codes.now.grid.cols r) in
    omega arith

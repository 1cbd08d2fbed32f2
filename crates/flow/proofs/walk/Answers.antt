use mathlib.Core.Path.{◌≡◌}
use Prim.Native.Nat.{◌+◌, ◌-◌, ◌≤◌}
use native.Mathlib.Omega.{arith}
use Rattle.cells.proofs.Rows.{next_row, within_row}
use Rattle.flow.proofs.walk.Goals.{then-cols-lt3, else-cols-lt3}
use Rattle.flow.proofs.walk.Goals as goal

pub inner_run-requires-clause-by_index : goal.inner_run-requires-clause-by_index
inner_run-requires-clause-by_index g c =
    let a = c.args in
    let row = c.loop-row.row in
    let two = c.loop-row.auto.row in
    let test = c.loop-row-test.true in
    let last : row + 1 ≤ a.g.rows =
    elim c.if-cols-lt3.branch [
      | then-cols-lt3 w ↦ let none = w.rows-is in omega arith
      | else-cols-lt3 w ↦ let all = w.rows-is in omega arith
    ] in
    let next = next_row a.g (row - 1) in
    let same : row - 1 + 1 ≡ row = omega arith in
    rw c.requires.sheet (λ i h k. within_row a.g (row - 1) (omega arith) (omega arith) i h (let there = rw same at next in omega arith))

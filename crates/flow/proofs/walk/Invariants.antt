use Prim.Native.Nat.{◌+◌, ◌-◌, ◌*◌, ◌≤◌}
use Rattle.grid.specs.Sheet.{size}
use Rattle.flow.proofs.walk.Given as goal

abbrev pub invariant-loop-row : goal.invariant-loop-row
invariant-loop-row g l = (l.from ≤ (l.row - 1) * l.g.cols + 1) × (l.from ≤ size l.g) × g.R.Runs.done l.runs l.from l.out

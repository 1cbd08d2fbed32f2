-- No key so far is below the lowest.
use Prim.Native.Nat.{ℕ, ◌≤◌, ◌<◌}
use Rattle.grid.specs.Sheet.{at}
use Rattle.cells.specs.Keys.{key_of}
use Rattle.outside.proofs.has_void.Given as goal

abbrev pub invariant-loop-cell : goal.invariant-loop-cell
invariant-loop-cell l = (c : ℕ) → c < l.cell → l.low ≤ key_of (at l.elevations c)

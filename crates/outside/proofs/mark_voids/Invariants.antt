-- Cell after cell gets its mark, and what lies before the marks is left alone.
use mathlib.Core.Path.{◌≡◌}
use mathlib.Core.Bool.{cond}
use Prim.Native.Nat.{ℕ, ◌+◌, ◌<◌}
use lib.ListN.{get_or}
use Rattle.grid.specs.Sheet.{is_data}
use Rattle.outside.proofs.mark_voids.Given as goal

abbrev pub invariant-loop-cell : goal.invariant-loop-cell
invariant-loop-cell l =
    ((c : ℕ) → c < l.cell → get_or l.work (l.base + c) 0 ≡ cond (is_data l.elevations c) 0 1)
    × ((i : ℕ) → i < l.base → get_or l.work i 0 ≡ get_or l.initial.work i 0)

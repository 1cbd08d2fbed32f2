-- The first i levels are unloaded.
use Prim.Native.Nat.{ℕ, ◌/◌, ◌<◌}
use mathlib.Core.Path.{◌≡◌}
use lib.ListN.{get_or}
use Rattle.grid.specs.Sheet.{at}
use Rattle.cells.specs.Keys.{level_of}
use Rattle.fill.proofs.unload.Given as goal

abbrev pub invariant-loop-i : goal.invariant-loop-i
invariant-loop-i l = (c : ℕ) → c < l.i → at l.filled c ≡ level_of (get_or l.work c 0 / 65536)

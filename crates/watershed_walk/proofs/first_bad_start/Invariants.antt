-- No start before the present cell is stray.
use Prim.Native.Nat.{ℕ, ◌<◌}
use mathlib.Core.Path.{◌≡◌}
use lib.ListN.{get_or}
use mathlib.Core.Bool.{false, ◌&&◌}
use lib.Dec.{eqb, ltb}
use Rattle.watershed_walk.proofs.first_bad_start.Given as goal

abbrev pub invariant-loop-c : goal.invariant-loop-c
invariant-loop-c l = (k : ℕ) → k < l.c → (eqb (get_or l.codes k 0) 0 && ltb 0 (get_or l.starts k 0)) ≡ false

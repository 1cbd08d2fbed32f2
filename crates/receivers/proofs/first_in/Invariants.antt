-- Every byte before the present one is allowed.
use Prim.Native.Nat.{ℕ, ◌<◌}
use mathlib.Core.Path.{◌≡◌}
use mathlib.Core.Bool.{true}
use lib.ListN.{get_or}
use Rattle.receivers.specs.Written.{is_allowed}
use Rattle.receivers.proofs.first_in.Given as goal

abbrev pub invariant-loop-c : goal.invariant-loop-c
invariant-loop-c l = (k : ℕ) → k < l.c → is_allowed (get_or l.codes k 0) ≡ true

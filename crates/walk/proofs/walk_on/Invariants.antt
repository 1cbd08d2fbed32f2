-- All starts: whatever receivers it began with, the starts below the present one are walked.
use Prim.Native.Nat.{ℕ, ◌≤◌}
use mathlib.Core.List.{List}
use lib.ListN.{length, take}
use Rattle.route_laws.specs.Receivers.{Marks}
use Rattle.route_laws.specs.Walking.{WalkedTo}
use Rattle.walk.proofs.walk_on.Given as goal

abbrev pub invariant-loop-start : goal.invariant-loop-start
invariant-loop-start l =
    (t₀ : List ℕ) → Marks l.n (take l.n t₀) → l.n ≤ length t₀ → WalkedTo l.n 0 t₀ l.initial.tail → WalkedTo l.n l.start t₀ l.tail

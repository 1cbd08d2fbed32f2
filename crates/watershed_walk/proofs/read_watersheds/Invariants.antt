-- The watersheds of the cells passed stand.
use Prim.Native.Nat.{◌+◌, ◌-◌}
use lib.ListN.{get_or}
use Rattle.route_laws.specs.Starts.{start_of}
use Rattle.labelling.proofs.Labelled.{FilledTo}
use Rattle.watershed_walk.proofs.read_watersheds.Given as goal

abbrev pub invariant-loop-c : goal.invariant-loop-c
invariant-loop-c l = FilledTo (λ c. start_of l.starts (get_or l.tail c 0 - (l.n + 1))) l.c l.watersheds

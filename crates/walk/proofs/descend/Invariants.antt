-- The walk down: its steps so far lead from the start to the present cell.
use Prim.Native.Nat.{◌<◌}
use Rattle.route_laws.specs.Walking.{Steps}
use Rattle.walk.proofs.descend.Given as goal

abbrev pub invariant-loop : goal.invariant-loop
invariant-loop l = (l.cell < l.n) × Steps l.n l.tail l.counter l.start l.cell

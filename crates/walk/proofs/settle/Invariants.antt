-- Writing down: each place written lay on the walk and had no result. The measure is the number of places that have none.
use Rattle.route_laws.specs.Walking.{Settling}
use Rattle.route_laws.proofs.Walking.{free_places}
use Rattle.walk.proofs.settle.Given as goal

abbrev pub invariant-loop-cell : goal.invariant-loop-cell
invariant-loop-cell l = Settling l.n l.start l.found l.initial.tail l.tail l.cell

abbrev pub decreases-loop-cell : goal.decreases-loop-cell
decreases-loop-cell l = free_places l.n l.tail

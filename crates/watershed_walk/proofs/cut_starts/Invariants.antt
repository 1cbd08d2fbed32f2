-- The places passed are cut.
use Rattle.watershed_walk.proofs.Cutting.{CutTo}
use Rattle.watershed_walk.proofs.cut_starts.Given as goal

abbrev pub invariant-loop-cell : goal.invariant-loop-cell
invariant-loop-cell l = CutTo l.n l.starts l.cell l.initial.tail l.tail

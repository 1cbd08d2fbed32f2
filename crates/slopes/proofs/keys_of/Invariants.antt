use Rattle.slopes.proofs.Drops.{Gathered}
use Rattle.slopes.proofs.keys_of.Given as goal

abbrev pub invariant-loop-p : goal.invariant-loop-p
invariant-loop-p l = Gathered l.t.raster.grid l.t.elevations.now l.cell (λ k. k) l.keys l.p

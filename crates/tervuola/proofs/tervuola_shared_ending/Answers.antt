-- The part that is handed back, by its place in the first list and its length.
use native.Mathlib.Omega.{arith}
use Rattle.ending.proofs.Promise.{part_fits, by_place}
use Rattle.tervuola.proofs.tervuola_shared_ending.Goals as goal

pub overflow_sub-result : goal.overflow_sub-result
overflow_sub-result c = omega (arith, part_fits _ _ _ _ c.shared_ending-part.ensures.shared)

pub returns : goal.returns
returns c = rw c.grid_of-g.ensures at (by_place _ _ _ _ c.shared_ending-part.ensures.shared)

use mathlib.Core.Path.{refl}
use Rattle.grid.specs.Sheet.{void}
use Rattle.cells.proofs.Direction.void.Goals as goal

pub returns : goal.returns
unfolding void
returns c = refl

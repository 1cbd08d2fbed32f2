use mathlib.Core.Path.{refl}
use native.Mathlib.Omega.{arith}
use borrow.Author.Tests.{eqb-false}
use Rattle.grid.specs.Sheet.{at}
use Rattle.cells.specs.Keys.{key_of}
use Rattle.cells.proofs.Keys.{data_by_key}
use Rattle.outside.proofs.has_void.Goals as goal

pub returns : goal.returns
returns c =
    let e = c.args.elevations.now in
    λ f i h. let k = c.loop-cell.invariant i (omega arith) in
    data_by_key e i (key_of (at e i)) refl (λ z. let n = eqb-false c.loop-cell.low 0 f in absurd (n (omega arith)))

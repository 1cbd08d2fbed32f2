use mathlib.Core.Path.{◌≡◌}
use native.Mathlib.Omega.{arith}
use Rattle.levels.proofs.run.Goals as goal

pub returns : goal.returns
returns g c =
    let order = c.requires.from_le_to.0 in
    let all : c.loop-cell.cell ≡ c.args.to = omega arith in
    rw all at c.loop-cell.invariant

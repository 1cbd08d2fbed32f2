use mathlib.Core.Path.{◌≡◌}
use native.Mathlib.Omega.{arith}
use Rattle.flow_laws.proofs.Words.{searching_most}
use Rattle.levels.proofs.empty.Goals as goal

pub loop-head-smaller : goal.loop-head-smaller
loop-head-smaller g c =
    let a = c.args in
    let l = c.loop-head in
    omega (arith, searching_most a.t.now.raster.grid a.t.now.elevations.now c.args.t.now.elevations_len a.half l.work l.invariant)

pub returns : goal.returns
returns g c =
    let order = c.loop-head.invariant.search.order in
    let all : c.loop-head.head ≡ c.loop-head.end = omega arith in
    rw all at c.loop-head.invariant

-- From the queue's first to its end.
use native.Mathlib.Omega.{arith}
use Rattle.flood_laws.proofs.Steps.{during_most}
use Rattle.flood.proofs.drain.Goals as goal

pub loop-head-smaller : goal.loop-head-smaller
loop-head-smaller c =
    let a = c.args in
    omega (arith, during_most a.r.now.grid _ _ a.k a.v c.loop-head.head c.loop-head.tail c.loop-head.invariant.1)

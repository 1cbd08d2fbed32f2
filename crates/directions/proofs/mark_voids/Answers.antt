use native.Mathlib.Omega.{arith}
use Rattle.fill.proofs.Voids.{full_marked}
use Rattle.directions.proofs.mark_voids.Goals as goal

pub returns-then-not-has_void : goal.returns-then-not-has_void
returns-then-not-has_void c =
    let a = c.args in
    let len = c.args.s.now.elevations_len in
    full_marked a.s.now.grid a.s.now.elevations.now (λ x h. c.has_void.ensures (c.if-not-has_void.true) x (omega arith)) _ a.work.now

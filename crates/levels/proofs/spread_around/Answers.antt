-- The eight steps one after the other: what stands at those before p is settled.
use native.Mathlib.Omega.{arith}
use Rattle.levels.proofs.Spreading.{spreading_room, spreading_off, spreading_more, spreading_end}
use Rattle.levels.proofs.spread_around.Goals.{in-Some, in_default}
use Rattle.levels.proofs.spread_around.Goals as goal

pub touch-end-requires-clause-tail_in_bounds : goal.touch-end-requires-clause-tail_in_bounds
touch-end-requires-clause-tail_in_bounds g c =
    spreading_room c.args.t.now.elevations_len c.loop-p.invariant (omega arith) c.in-Some.m c.in-Some.ensures.1

pub loop-p-preserved : goal.loop-p-preserved
loop-p-preserved g c =
    let len = c.args.t.now.elevations_len in
    let before = c.loop-p.invariant in
    elim c.match-near.branch [
      | in-Some w ↦
          let m = w.in-Some.ensures in
          rw (w.work-is, w.end-is)
          (spreading_more len before c.requires.g_bound_2 (omega arith) c.loop-p-test.true m.0 m.1 w.touch-end.ensures)
      | in_default w ↦ rw (w.work-is, w.end-is) (spreading_off len before w.in_default.ensures)
    ]

pub returns : goal.returns
returns g c = spreading_end c.args.t.now.elevations_len c.loop-p.invariant c.loop-p-test.false

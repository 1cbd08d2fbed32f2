-- The eight steps one after the other: no mark 1 stands at those before p. A step off the sheet takes nothing.
use native.Mathlib.Omega.{arith}
use mathlib.Core.Logic.{inl}
use mathlib.Core.Path.{refl}
use Rattle.join_laws.proofs.Search.{queue_room, touch_step, goes_on, parts_same}
use Rattle.join.proofs.spread_around.Goals.{in-Some, in_default}
use Rattle.join.proofs.spread_around.Goals as goal

pub touch-tail-requires-clause-len_lt_n : goal.touch-tail-requires-clause-len_lt_n
touch-tail-requires-clause-len_lt_n g c = λ e.
    let a = c.args in
    queue_room a.r.now.grid a.base a.half a.value c.requires.le_value c.loop-p.work
    (parts_same c.requires.parts c.loop-p.auto.work) a.head c.loop-p.tail c.loop-p.invariant.0.searching _ c.in-Some.ensures.1 e

pub loop-p-preserved : goal.loop-p-preserved
loop-p-preserved g c =
    let a = c.args in
    let step = touch_step a.r.now.grid a.base a.half a.value c.requires.le_value c.loop-p.work (parts_same c.requires.parts c.loop-p.auto.work) a.head
    c.loop-p.tail a.x c.loop-p.p c.loop-p-test.true c.loop-p.invariant.0 in
    elim c.match-near.branch [
      | in-Some w ↦
          let e = w.in-Some.ensures.0 in
          let n = step w.touch-tail.new.work w.touch-tail.result (rw e at w.touch-tail.ensures) in
          rw w.work-is (rw w.tail-is (n.0, goes_on a.r.now.grid a.base a.half a.value a.work.now c.loop-p.work w.touch-tail.new.work c.loop-p.invariant.1 n.1))
      | in_default w ↦
          let off = w.in_default.ensures in
          let n = step c.loop-p.work c.loop-p.tail (inl (refl, refl, λ h e. let z : ⊥ = omega arith in absurd z)) in
          rw w.work-is (rw w.tail-is (n.0, c.loop-p.invariant.1))
    ]

-- From the queue's first to its end.
use native.Mathlib.Omega.{arith}
use mathlib.Core.Path.{◌≡◌}
use Rattle.join_laws.proofs.Search.{queue_cell, parts_same, goes_on, searched}
use Rattle.join.proofs.join.Goals as goal

pub loop-head-smaller : goal.loop-head-smaller
loop-head-smaller c =
    let a = c.args in
    let h = (queue_cell a.g a.base a.half a.value c.requires.le_value c.loop-head.work (parts_same c.requires.parts c.loop-head.auto.work) c.loop-head.head
    c.loop-head.tail
    c.loop-head.invariant.0 c.loop-head-test.true).0 in
    omega arith

pub returns-clause-work_after : goal.returns-clause-work_after
returns-clause-work_after c =
    let a = c.args in
    let o = c.loop-head.invariant.0.order in
    let t = c.loop-head-test.false in
    let e : c.loop-head.head ≡ c.loop-head.tail = omega arith in
    searched a.g a.base a.half a.value c.requires.le_value a.work.now c.requires.parts c.loop-head.work c.loop-head.tail c.loop-head.invariant.1
    (rw e at c.loop-head.invariant.0)

-- the raster is that of the sheet
pub loop-head-preserved : goal.loop-head-preserved
loop-head-preserved c =
    let a = c.args in
    let e = c.new-r.ensures in (
      rw e at c.spread-tail.ensures.searching_2,
      goes_on a.g a.base a.half a.value a.work.now c.loop-head.work c.spread-tail.new.work c.loop-head.invariant.1 (rw e at c.spread-tail.ensures.goes_on),
    )

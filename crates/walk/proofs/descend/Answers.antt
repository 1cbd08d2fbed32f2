use Prim.Native.Nat.{◌+◌, ◌<◌}
use mathlib.Core.Path.{refl}
use native.Mathlib.Omega.{arith}
use lib.ListN.{get_or}
use Rattle.route_laws.proofs.Walking.{step_on, stop_met, stop_end, stop_far}
use Rattle.walk.proofs.descend.Goals as goal

pub loop-init : goal.loop-init
loop-init c = (c.requires.start_lt_n, refl)

pub returns-then-mark-n : goal.returns-then-mark-n
returns-then-mark-n c =
    stop_met c.args.n c.args.tail.now c.loop.counter c.args.start c.loop.cell c.loop.invariant.1 c.loop.invariant.0 c.if-mark-n.true

pub returns-then-mark-n-2 : goal.returns-then-mark-n-2
returns-then-mark-n-2 c =
    stop_end c.args.n c.args.tail.now c.loop.counter c.args.start c.loop.cell c.loop.invariant.1 c.loop.invariant.0 c.if-mark-n-2.true

pub returns-else-mark-n-2 : goal.returns-else-mark-n-2
returns-else-mark-n-2 c =
    let h : get_or c.args.tail.now c.loop.cell 0 < c.args.n = omega arith in
    stop_far c.args.n c.args.tail.now (c.loop.counter + 1) c.args.start _
    (step_on c.args.n c.args.tail.now c.loop.counter c.args.start c.loop.cell c.loop.invariant.1 c.loop.invariant.0 h) h (omega arith)

pub loop-preserved : goal.loop-preserved
loop-preserved c =
    let h : get_or c.args.tail.now c.loop.cell 0 < c.args.n = omega arith in
    (h, step_on c.args.n c.args.tail.now c.loop.counter c.args.start c.loop.cell c.loop.invariant.1 c.loop.invariant.0 h)

pub returns : goal.returns
returns c =
    stop_far c.args.n c.args.tail.now c.loop.counter c.args.start c.loop.cell c.loop.invariant.1 c.loop.invariant.0 (omega arith)

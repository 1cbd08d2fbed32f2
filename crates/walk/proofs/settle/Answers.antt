-- Writing down: each place written lay on the walk and had no result. The measure is the number of places that have none.
use native.Mathlib.Omega.{arith}
use Rattle.route_laws.proofs.Walking.{fewer_free, settling_none, settling_more, settled_off, settled_met}
use Rattle.walk.proofs.settle.Goals as goal

pub loop-cell-init : goal.loop-cell-init
loop-cell-init c = settling_none c.args.n c.args.start c.args.found c.args.tail.now c.requires.start_lt_n

pub returns-then-mark-n : goal.returns-then-mark-n
returns-then-mark-n c =
    settled_met c.args.n c.args.start c.args.found c.args.tail.now c.loop-cell.tail c.loop-cell.cell c.loop-cell.invariant c.requires.start_lt_n
    c.requires.start_bound c.requires.n_lt_found c.if-mark-n.true

pub loop-cell-smaller : goal.loop-cell-smaller
loop-cell-smaller c =
    let e = c.loop-cell.invariant.same_length in
    fewer_free c.args.n c.args.found c.loop-cell.tail c.loop-cell.cell c.loop-cell-test.true (omega arith) c.if-mark-n.false
    c.requires.n_lt_found

pub loop-cell-preserved : goal.loop-cell-preserved
loop-cell-preserved c =
    let e = c.loop-cell.invariant.same_length in
    settling_more c.args.n c.args.start c.args.found c.args.tail.now c.loop-cell.tail c.loop-cell.cell c.loop-cell.invariant c.requires.n_lt_found
    c.loop-cell-test.true (omega arith) c.if-mark-n.false

pub returns : goal.returns
returns c =
    settled_off c.args.n c.args.start c.args.found c.args.tail.now c.loop-cell.tail c.loop-cell.cell c.loop-cell.invariant c.requires.start_lt_n
    c.requires.start_bound c.requires.n_lt_found c.loop-cell-test.false

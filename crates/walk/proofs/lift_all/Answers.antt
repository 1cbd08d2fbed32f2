use native.Mathlib.Omega.{arith}
use Rattle.route_laws.proofs.Walking.{walked_none, lifted}
use Rattle.walk.proofs.lift_all.Goals as goal

pub loop-cell-init : goal.loop-cell-init
loop-cell-init c = walked_none c.args.n c.args.tail.now c.requires.marks c.requires.n_in_bounds

pub loop-cell-preserved : goal.loop-cell-preserved
loop-cell-preserved c =
    lifted c.args.n c.args.tail.now c.requires.marks c.requires.n_in_bounds 0 c.loop-cell.tail c.loop-cell.invariant _ (omega arith)
    c.lift.new.tail c.lift.ensures

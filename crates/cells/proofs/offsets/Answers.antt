-- Position by position, as the table of steps has them.
use mathlib.Core.Path.{refl}
use native.Mathlib.Omega.{arith}
use Rattle.cells.specs.Steps.{right_of}
use Rattle.cells.proofs.Steps.{offsets_none, offsets_more, offset_small}
use Rattle.cells.proofs.offsets.Goals as goal

pub loop-p-init : goal.loop-p-init
loop-p-init c = offsets_none c.args.cols _ refl

pub row_step-requires : goal.row_step-requires
row_step-requires c = c.loop-p-test.true

pub overflow_mul-found : goal.overflow_mul-found
overflow_mul-found c =
    let a = (offset_small c.args.cols c.loop-p.p c.row_step.result (right_of c.loop-p.p)
    c.requires c.loop-p-test.true c.row_step.ensures refl).1 in
    omega arith

pub col_step-requires : goal.col_step-requires
col_step-requires c = c.loop-p-test.true

pub overflow_add-found : goal.overflow_add-found
overflow_add-found c =
    let a = (offset_small c.args.cols c.loop-p.p c.row_step.result c.col_step.result
    c.requires c.loop-p-test.true c.row_step.ensures c.col_step.ensures).0 in
    omega arith

pub loop-p-preserved : goal.loop-p-preserved
loop-p-preserved c =
    offsets_more c.args.cols c.loop-p.found c.loop-p.p c.row_step.result c.col_step.result c.loop-p-test.true
    c.loop-p.invariant c.row_step.ensures c.col_step.ensures

pub returns : goal.returns
returns c = λ p h. let e = c.loop-p-test.false in c.loop-p.invariant.found p (omega arith)

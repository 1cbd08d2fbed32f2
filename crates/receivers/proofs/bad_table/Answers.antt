use native.Mathlib.Omega.{arith}
use Rattle.receivers.proofs.Codes.{bad_none, bad_more, bad_table_is}
use Rattle.receivers.proofs.bad_table.Goals as goal

pub loop-p-init : goal.loop-p-init
loop-p-init c = bad_none

pub loop-p-preserved : goal.loop-p-preserved
loop-p-preserved c = bad_more c.loop-p.table c.loop-p.p c.code.result c.code.ensures c.loop-p.invariant

pub returns : goal.returns
returns c = bad_table_is c.loop-p.table c.loop-p.p (let t = c.loop-p-test.false in omega arith) c.loop-p.invariant

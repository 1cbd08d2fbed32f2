use Rattle.receivers.proofs.Codes.{reach_more, reach_all}
use Rattle.receivers.proofs.reach_table.Goals as goal

pub loop-p-preserved : goal.loop-p-preserved
loop-p-preserved c =
    reach_more c.offsets-offsets.result c.loop-p.table c.loop-p.p c.code.result c.loop-p-test.true c.code.ensures
    c.loop-p.invariant

pub returns : goal.returns
returns c =
    reach_all c.offsets-offsets.result c.loop-p.table c.loop-p.p c.loop-p-test.false c.loop-p.invariant c.args.cols
    c.offsets-offsets.ensures

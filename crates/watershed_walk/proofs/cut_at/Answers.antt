-- Where there is no start the place stays.
use Rattle.watershed_walk.proofs.Cutting.{cut_none, cut_one}
use Rattle.watershed_walk.proofs.cut_at.Goals as goal

pub returns-then-starts-cell-eq0 : goal.returns-then-starts-cell-eq0
returns-then-starts-cell-eq0 c = cut_none c.args.n c.args.starts.now c.args.tail.now c.args.cell c.if-starts-cell-eq0.true

pub returns : goal.returns
returns c = cut_one c.args.n c.args.starts.now c.args.tail.now c.args.cell c.if-starts-cell-eq0.false

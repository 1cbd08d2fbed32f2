use Rattle.cells.proofs.Codes.{side_above, corner_shut, straight_by}
use Rattle.cells.proofs.is_open.Goals as goal

pub returns-then-p-eq0 : goal.returns-then-p-eq0
returns-then-p-eq0 c = corner_shut c.args.g c.args.p c.if-p-eq0.true

pub nonzero_div-result : goal.nonzero_div-result
nonzero_div-result c =
    let a = c.args in
    rw c.side.ensures (side_above a.p c.requires c.if-p-eq0.false)

pub returns : goal.returns
returns c =
    let a = c.args in
    straight_by a.g a.p c.side.result c.if-p-eq0.false c.side.ensures

use Rattle.cells.proofs.Codes.{code_byte}
use Rattle.cells.proofs.Direction.code.Goals as goal

pub returns : goal.returns
returns c = code_byte c.args.p c.requires

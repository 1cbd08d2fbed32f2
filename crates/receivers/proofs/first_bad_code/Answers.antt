-- The first that the table has.
use Rattle.receivers.proofs.Codes.{first_bad_is}
use Rattle.receivers.proofs.first_bad_code.Goals as goal

pub returns : goal.returns
returns c = first_bad_is c.args.g c.args.codes.now c.requires c.first_in.result c.first_in.ensures

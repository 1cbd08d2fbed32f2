-- What one step finds, and then the starts.
use Rattle.walk.proofs.walk.Goals as goal

pub returns : goal.returns
returns c =
    c.walk_on.ensures c.args.tail.now c.requires.marks c.requires.n_in_bounds c.lift_all.ensures

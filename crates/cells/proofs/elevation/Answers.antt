use Rattle.cells.proofs.Words.{diff_fits, narrow, diff_is}
use Rattle.cells.proofs.elevation.Goals as goal

pub overflow_add-result : goal.overflow_add-result
overflow_add-result c = diff_fits c.args.k c.requires

pub overflow_cast-result-3 : goal.overflow_cast-result-3
overflow_cast-result-3 c = narrow c.args.k c.requires

pub returns : goal.returns
returns c = diff_is c.args.k c.requires

use Rattle.cells.proofs.Steps.{table, row_entry}
use Rattle.cells.proofs.row_step.Goals as goal

pub overflow_add-result : goal.overflow_add-result
unfolding table
overflow_add-result c = (row_entry c.args.p c.requires).0

pub overflow_cast-result : goal.overflow_cast-result
unfolding table
overflow_cast-result c = (row_entry c.args.p c.requires).1.0

pub returns : goal.returns
unfolding table
returns c = (row_entry c.args.p c.requires).1.1

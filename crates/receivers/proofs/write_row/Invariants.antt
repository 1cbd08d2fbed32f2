-- The marks of the row's cells passed stand.
use Rattle.receivers.specs.Written.{RowWritten}
use Rattle.receivers.proofs.write_row.Given as goal

abbrev pub invariant-loop-col : goal.invariant-loop-col
invariant-loop-col l = RowWritten l.codes.grid l.codes.codes.now l.row l.col l.initial.tail l.tail

-- The marks of the rows passed stand.
use Prim.Native.Nat.{◌*◌}
use Rattle.receivers.specs.Written.{WrittenTo}
use Rattle.receivers.proofs.write_marks.Given as goal

abbrev pub invariant-loop-row : goal.invariant-loop-row
invariant-loop-row l = WrittenTo l.codes.grid l.codes.codes.now (l.row * l.codes.grid.cols) l.initial.tail l.tail

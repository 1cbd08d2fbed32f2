-- The first i values are put.
use Prim.Native.Nat.{ℕ, ◌+◌, ◌<◌}
use lib.ListN.{get_or}
use Rattle.std.specs.List.{SameBelow, SameFrom}
use Rattle.pour_columns.proofs.put.Given as goal

abbrev pub invariant-loop-i : goal.invariant-loop-i
invariant-loop-i g l =
    ((j : ℕ) (d : g.row.T.Denot) → j < l.i → g.F.Fn.post l.value (get_or l.words j 0, tt) (get_or l.column (l.place + j) d))
    × SameBelow l.initial.column l.column l.place × SameFrom l.initial.column l.column (l.place + l.i)

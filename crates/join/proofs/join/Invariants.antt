-- From the queue's first to its end.
use Prim.Native.Nat.{◌-◌}
use Rattle.grid.specs.Sheet.{size}
use Rattle.join_laws.specs.Search.{part_of, Searching, GoesOn}
use Rattle.join.proofs.join.Given as goal

abbrev pub invariant-loop-head : goal.invariant-loop-head
invariant-loop-head l =
    Searching l.fn.g l.value (part_of (size l.fn.g) l.base l.work) (part_of (size l.fn.g) l.half l.work) l.head l.tail
    × GoesOn l.fn.g l.base l.half l.value l.initial.work l.work

abbrev pub decreases-loop-head : goal.decreases-loop-head
decreases-loop-head l = size l.fn.g - l.head

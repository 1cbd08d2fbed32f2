-- The eight steps one after the other: no mark 1 stands at those before p.
use Rattle.grid.specs.Sheet.{size}
use Rattle.join_laws.specs.Search.{part_of, Spreading, GoesOn}
use Rattle.join.proofs.spread_around.Given as goal

abbrev pub invariant-loop-p : goal.invariant-loop-p
invariant-loop-p INNER l =
    Spreading l.r.grid l.value (part_of (size l.r.grid) l.base l.work) (part_of (size l.r.grid) l.half l.work) l.head l.tail l.x l.p
    × GoesOn l.r.grid l.base l.half l.value l.initial.work l.work

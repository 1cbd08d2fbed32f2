-- From the queue's first to its end.
use Rattle.flood_laws.specs.Packed.{front_of, back_of}
use Prim.Native.Nat.{◌-◌}
use mathlib.Core.Path.{◌≡◌}
use Rattle.grid.specs.Sheet.{size}
use Rattle.flood_laws.specs.Flood.{During}
use Rattle.flood.proofs.drain.Given as goal

abbrev pub invariant-loop-head : goal.invariant-loop-head
invariant-loop-head l =
    (front_of (size l.r.grid) l.half l.work ≡ front_of (size l.r.grid) l.half l.initial.work)
    × During l.r.grid (front_of (size l.r.grid) l.half l.initial.work) (back_of (size l.r.grid) l.half l.work) l.k l.v l.head l.tail

abbrev pub decreases-loop-head : goal.decreases-loop-head
decreases-loop-head l = size l.r.grid - l.head

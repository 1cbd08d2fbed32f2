-- The eight steps one after the other: what stands at those before p is settled.
use mathlib.Core.Path.{◌≡◌}
use Rattle.grid.specs.Sheet.{size}
use Rattle.flood_laws.specs.Flood.{Spread}
use Rattle.flood_laws.specs.Packed.{front_of, back_of}
use Rattle.flood.proofs.spread_around.Given as goal

abbrev pub invariant-loop-p : goal.invariant-loop-p
invariant-loop-p INNER l =
    (front_of (size l.r.grid) l.half l.work ≡ front_of (size l.r.grid) l.half l.initial.work)
    × Spread l.r.grid (front_of (size l.r.grid) l.half l.initial.work) (back_of (size l.r.grid) l.half l.work) l.k l.v l.head l.tail l.x l.p

-- The eight steps one after the other: none of those before p opens.
use Prim.Native.Nat.{ℕ, ◌<◌}
use Rattle.grid.specs.Sheet.{size, neighbour}
use Rattle.flood_laws.specs.Flood.{Opens}
use Rattle.flood_laws.specs.Packed.{front_of, back_of}
use Rattle.flood.proofs.opening_around.Given as goal

abbrev pub invariant-loop-p : goal.invariant-loop-p
invariant-loop-p INNER l =
    (q : ℕ) → q < l.p → Opens l.r.grid (front_of (size l.r.grid) l.half l.work) (back_of (size l.r.grid) l.half l.work) q (neighbour l.r.grid l.c q) → ⊥

-- Visit by visit through the order.
use mathlib.Core.Path.{◌≡◌}
use Rattle.grid.specs.Sheet.{size}
use Rattle.flood_laws.specs.Flood.{Between}
use Rattle.flood_laws.specs.Packed.{front_of, back_of}
use Rattle.flood.proofs.flood.Given as goal

abbrev pub invariant-loop-k : goal.invariant-loop-k
invariant-loop-k l =
    (front_of (size l.fn.g) l.half l.work ≡ front_of (size l.fn.g) l.half l.initial.work)
    × Between l.fn.g (front_of (size l.fn.g) l.half l.initial.work) (back_of (size l.fn.g) l.half l.work) l.k l.len

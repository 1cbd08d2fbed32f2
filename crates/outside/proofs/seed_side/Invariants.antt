-- Each cell of the side is touched; those before it keep having no mark 1.
use mathlib.Core.Path.{◌≡◌}
use Prim.Native.Nat.{ℕ, ◌+◌, ◌*◌, ◌<◌}
use lib.ListN.{get_or}
use Rattle.outside.specs.Seeds.{SeedsOn}
use Rattle.outside.proofs.seed_side.Given as goal

abbrev pub invariant-loop-i : goal.invariant-loop-i
invariant-loop-i l =
    SeedsOn l.g l.base l.half l.initial.work l.work l.tail
    × ((j : ℕ) → j < l.i → get_or l.work (l.base + (l.start + j * l.stride)) 0 ≡ 1 → ⊥)

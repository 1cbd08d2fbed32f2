-- Where the lowest key is no void's there is nothing to mark.
use mathlib.Core.Path.{◌≡◌, refl, ◌∙◌}
use mathlib.Core.Bool.{true}
use Prim.Native.Nat.{ℕ, ◌<◌}
use lib.ListN.{get_or}
use borrow.Author.Tests.{lt-ltb}
use Rattle.grid.specs.Sheet.{size, is_data}
use Rattle.grid_laws.proofs.Tests.{true_false}
use Rattle.fill.proofs.Voids.{full_marked}
use Rattle.fill.proofs.mark_voids.Goals as goal

pub returns-then-not-lowest_is_void : goal.returns-then-not-lowest_is_void
returns-then-not-lowest_is_void c =
    let a = c.args in
    let full : (x : ℕ) → x < size a.s.now.grid → is_data a.s.now.elevations.now x ≡ true =
    λ x h. c.requires.same_voids x h
    ∙ lt-ltb 0 (get_or a.work.now x 0) (c.lowest_is_void.ensures (c.if-not-lowest_is_void.true) x h) in
    record {
      marked = full_marked a.s.now.grid a.s.now.elevations.now full _ a.work.now;
      c_value = λ f. full;
      by_index = λ i h. refl;
    }

pub returns : goal.returns
returns c =
    record {
      marked = c.mark.ensures.marked;
      c_value = λ f. true_false refl f;
      by_index = c.mark.ensures.by_index;
    }

-- Sort, mark the voids, flood, and the first cell that the flood has not come to.
use mathlib.Core.Path.{◌≡◌, sym, ◌∙◌}
use mathlib.Core.Bool.{true}
use Prim.Native.Nat.{ℕ, ◌<◌}
use native.Mathlib.Omega.{arith}
use Rattle.grid.specs.Sheet.{size, is_data}
use Rattle.fill.specs.Words.{sheet_in}
use Rattle.fill.proofs.Words.{sheet_length}
use Rattle.fill.proofs.Voids.{kept_voids, spelled_voids, full_reach, ready}
use Rattle.fill.proofs.Steps.{front_sorted, none_reached, marks_stay, unreached_first, flooded_words}
use Rattle.fill.proofs.fill_words.Goals as goal

pub mark_voids-voids-requires : goal.mark_voids-voids-requires
mark_voids-voids-requires c =
    let a = c.args in
    let same = c.sort.auto.work in
    let room = c.requires.g_in_bounds in
    let voids = kept_voids a.s.now.grid a.s.now.elevations.now a.work.now c.sort.new.work c.sort.ensures.by_index c.requires.same_voids in
    record {
      g_in_bounds = omega arith;
      sorted = c.sort.ensures.sorted;
      same_voids = voids;
    }

pub flood-requires : goal.flood-requires
flood-requires c =
    let a = c.args in
    let room = c.requires.g_in_bounds in
    let long = c.mark_voids-voids.auto.work ∙ c.sort.auto.work in
    let R =
    ready a.s.now.grid a.s.now.elevations.now a.work.now c.sort.new.work c.mark_voids-voids.new.work c.args.s.now.elevations_len c.requires.are_keys c.requires.same_voids
    c.requires.g_in_bounds c.sort.auto.work c.sort.ensures.sorted c.sort.ensures.by_index c.mark_voids-voids.ensures.marked c.mark_voids-voids.ensures.by_index in
    let sorted = front_sorted a.s.now.grid _ a.work.now c.mark_voids-voids.new.work R in
    let none = none_reached a.s.now.grid _ a.work.now c.mark_voids-voids.new.work R in
    record {
      g_bound = c.args.s.now.size_bound;
      cols_bound = c.args.s.now.cols_bound;
      g_bound_2 = omega arith;
      g_in_bounds = omega arith;
      sorted = sorted;
      by_index = none;
    }

-- every side is open, and no cell is void
pub returns-then-all_drain : goal.returns-then-all_drain
returns-then-all_drain c =
    let a = c.args in
    let R =
    ready a.s.now.grid a.s.now.elevations.now a.work.now c.sort.new.work c.mark_voids-voids.new.work c.args.s.now.elevations_len c.requires.are_keys c.requires.same_voids
    c.requires.g_in_bounds c.sort.auto.work c.sort.ensures.sorted c.sort.ensures.by_index c.mark_voids-voids.ensures.marked c.mark_voids-voids.ensures.by_index in
    let drain = c.all_drain.ensures c.if-all_drain.true in
    let sheet = sheet_in (size a.s.now.grid) a.work.now in
    let full : (x : ℕ) → x < size a.s.now.grid → is_data sheet x ≡ true =
    λ x h. sym (spelled_voids a.s.now.grid a.s.now.elevations.now a.work.now c.args.s.now.elevations_len c.requires.are_keys c.requires.same_voids x)
    ∙ c.mark_voids-voids.ensures.c_value drain.1 x h in
    let none = full_reach a.s.now.grid sheet full drain.0 (sheet_length (size a.s.now.grid) a.work.now) in
    record {
      value = sym none;
      words = λ _. flooded_words a.s.now.grid _ a.work.now c.mark_voids-voids.new.work R c.flood.new.work c.flood.ensures.front_unchanged c.flood.ensures.by_index_2 none;
      marked = marks_stay a.s.now.grid _ a.work.now c.mark_voids-voids.new.work R c.flood.new.work c.flood.ensures.front_unchanged c.flood.ensures.by_index_2;
    }

pub returns : goal.returns
returns c =
    let a = c.args in
    let R =
    ready a.s.now.grid a.s.now.elevations.now a.work.now c.sort.new.work c.mark_voids-voids.new.work c.args.s.now.elevations_len c.requires.are_keys c.requires.same_voids
    c.requires.g_in_bounds c.sort.auto.work c.sort.ensures.sorted c.sort.ensures.by_index c.mark_voids-voids.ensures.marked c.mark_voids-voids.ensures.by_index in
    let first =
    c.first_unreached.ensures
    ∙ unreached_first a.s.now.grid _ a.work.now c.mark_voids-voids.new.work R c.flood.new.work c.flood.ensures.front_unchanged c.flood.ensures.by_index_2 in
    record {
      value = first;
      words = λ q. flooded_words a.s.now.grid _ a.work.now c.mark_voids-voids.new.work R c.flood.new.work c.flood.ensures.front_unchanged c.flood.ensures.by_index_2 (sym first ∙ q);
      marked = marks_stay a.s.now.grid _ a.work.now c.mark_voids-voids.new.work R c.flood.new.work c.flood.ensures.front_unchanged c.flood.ensures.by_index_2;
    }

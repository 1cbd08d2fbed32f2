-- The sheet that the keys spell is in range. Where none of its data cells is stranded its filled sheet has every level and its routes end:
-- each step has what it asks for.
use mathlib.Core.Path.{refl, sym, ◌∙◌}
use native.Mathlib.Omega.{arith}
use lib.ListN.{length}
use Rattle.grid.specs.Sheet.{size}
use Rattle.grid.specs.Checks.{accepted}
use Rattle.checks.proofs.Questions.{reach_yes}
use Rattle.fill.specs.Words.{sheet_in}
use Rattle.fill.proofs.Words.{sheet_length, sheet_sixteen}
use Rattle.drainage.proofs.Four.{stranded_four, four_of_yes}
use Rattle.drainage.proofs.Steps.{filled_marked, reach, fills, codes_right, routable}
use Rattle.drainage.proofs.drain_loaded.Goals as goal

pub fill_loaded-first-requires : goal.fill_loaded-first-requires
fill_loaded-first-requires c =
    let M = c.requires.measured in
    let few = M.fits.cells in
    let narrow = M.fits.cols_high in
    record {
      filled_len = M.filled_has;
      g_in_bounds = M.room;
      are_keys = c.requires.are_keys;
      same_voids = c.requires.same_voids;
    }

-- a cell's number fits 32 bits
pub overflow_cast-first : goal.overflow_cast-first
overflow_cast-first c =
    let M = c.requires.measured in
    let few = M.fits.cells in
    let has = M.filled_has in
    let same = c.fill_loaded-first.auto.filled in
    let h = c.if-first-filled.true in
    omega arith

pub returns-then-first-filled : goal.returns-then-first-filled
returns-then-first-filled c =
    let a = c.args in
    let n = size a.g in
    let has = c.requires.measured.filled_has in
    let same = c.fill_loaded-first.auto.filled in
    let h = c.if-first-filled.true in
    let the_all = stranded_four a.g (sheet_in n a.work.now) a.filled.now c.fill_loaded-first.new.filled a.codes.now a.counts.now a.labels.now
    c.fill_loaded-first.result c.fill_loaded-first.ensures.value c.fill_loaded-first.ensures.filled_after (omega arith) in
    rw c.at.ensures record {
      value = the_all.0;
      four_results = the_all.1;
    }

pub directions_into-half-requires : goal.directions_into-half-requires
directions_into-half-requires c =
    let a = c.args in
    let n = size a.g in
    let M = c.requires.measured in
    let few = M.fits.cells in
    let narrow = M.fits.cols_high in
    let room = M.room in
    let has = M.filled_has in
    let same = c.fill_loaded-first.auto.filled in
    let long = c.fill_loaded-first.auto.work in
    let h = c.if-first-filled.false in
    let marks =
    filled_marked a.g (sheet_in n a.work.now) a.filled.now c.fill_loaded-first.new.filled c.fill_loaded-first.new.work c.fill_loaded-first.result _ _
    (sheet_length n a.work.now) (sheet_sixteen n a.work.now c.requires.are_keys) c.fill_loaded-first.ensures.value (omega arith)
    c.fill_loaded-first.ensures.filled_after long c.fill_loaded-first.ensures.marked in
    record {
      codes_len = M.codes_have;
      g_in_bounds = omega arith;
      shaped = M.shaped;
      marked = marks;
    }

pub route_results-requires : goal.route_results-requires
route_results-requires c =
    let a = c.args in
    let n = size a.g in
    let same = c.fill_loaded-first.auto.filled in
    let h = c.if-first-filled.false in
    routable a.g (sheet_in n a.work.now) a.filled.now c.fill_loaded-first.new.filled a.codes.now c.directions_into-half.new.codes
    (length a.filled.now) (length a.codes.now) (length a.counts.now) (length a.labels.now) (length a.work.now)
    c.fill_loaded-first.result c.directions_into-half.result
    c.requires.measured (sheet_length n a.work.now) (sheet_sixteen n a.work.now c.requires.are_keys) c.fill_loaded-first.ensures.value (omega arith)
    c.fill_loaded-first.ensures.filled_after c.directions_into-half.ensures.value c.directions_into-half.ensures.codes_after c.directions_into-half.new.work
    (c.directions_into-half.auto.work ∙ c.fill_loaded-first.auto.work)

pub returns : goal.returns
returns c =
    let a = c.args in
    let n = size a.g in
    let input = sheet_in n a.work.now in
    let cells = sheet_length n a.work.now in
    let range = sheet_sixteen n a.work.now c.requires.are_keys in
    let same = c.fill_loaded-first.auto.filled in
    let h = c.if-first-filled.false in
    let on =
    reach a.g input a.filled.now c.fill_loaded-first.new.filled a.codes.now c.directions_into-half.new.codes
    (length a.filled.now) (length a.codes.now) (length a.counts.now) (length a.labels.now) (length a.work.now)
    c.fill_loaded-first.result c.directions_into-half.result c.requires.measured cells range c.fill_loaded-first.ensures.value (omega arith) c.fill_loaded-first.ensures.filled_after c.directions_into-half.ensures.value
    c.directions_into-half.ensures.codes_after in
    let full =
    fills a.g input a.filled.now c.fill_loaded-first.new.filled a.codes.now c.directions_into-half.new.codes
    (length a.filled.now) (length a.codes.now) (length a.counts.now) (length a.labels.now) (length a.work.now)
    c.fill_loaded-first.result c.directions_into-half.result c.requires.measured cells range c.fill_loaded-first.ensures.value (omega arith) c.fill_loaded-first.ensures.filled_after c.directions_into-half.ensures.value
    c.directions_into-half.ensures.codes_after in
    let codes =
    codes_right a.g input a.filled.now c.fill_loaded-first.new.filled a.codes.now c.directions_into-half.new.codes
    (length a.filled.now) (length a.codes.now) (length a.counts.now) (length a.labels.now) (length a.work.now)
    c.fill_loaded-first.result c.directions_into-half.result c.requires.measured cells range c.fill_loaded-first.ensures.value (omega arith) c.fill_loaded-first.ensures.filled_after c.directions_into-half.ensures.value
    c.directions_into-half.ensures.codes_after in
    record {
      value = sym (reach_yes a.g input accepted on);
      four_results = four_of_yes a.g input a.filled.now c.fill_loaded-first.new.filled a.codes.now a.counts.now a.labels.now accepted refl cells range
          on c.directions_into-half.new.codes c.route_results.new.counts c.route_results.new.labels full codes c.route_results.ensures.counts_after c.route_results.ensures.labels_after;
    }

pub invariant_of-sheet : goal.invariant_of-sheet
invariant_of-sheet c =
    let M = c.requires.measured in
    let few = M.fits.cells in
    let narrow = M.fits.cols_high in
    record {
      size_bound = omega arith;
      cols_bound = omega arith;
      elevations_len = c.requires.elevations_len;
    }

pub invariant_of-drained : goal.invariant_of-drained
invariant_of-drained c =
    let M = c.requires.measured in
    let few = M.fits.cells in
    let narrow = M.fits.cols_high in
    record {
      size_bound = omega arith;
      cols_bound = omega arith;
      elevations_len = c.fill_loaded-first.auto.filled ∙ M.filled_has;
    }

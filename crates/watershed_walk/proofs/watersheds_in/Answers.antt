-- Receivers, cut at starts, walked, and read: the law of watersheds.
use mathlib.Core.Path.{◌∙◌}
use native.Mathlib.Omega.{arith}
use Rattle.watershed_walk.proofs.Cutting.{marks_cut, raised, watersheds_read}
use Rattle.watershed_walk.proofs.watersheds_in.Goals as goal

pub walk-requires : goal.walk-requires
walk-requires c =
    let f = c.args.codes.now.size_bound in
    let q = marks_cut c.args.codes.now.grid c.args.codes.now.codes.now c.args.starts.now c.args.tail.now c.receivers_from.new.tail
    c.cut_starts.new.tail c.args.codes.now.codes_len c.requires.starts_len c.args.codes.now.all_codes c.requires.codes_value
    c.requires.starts_value c.receivers_from.ensures c.cut_starts.ensures in
    record {
      n_bound = omega arith;
      n_in_bounds = let a = c.receivers_from.auto.tail in let b = c.cut_starts.auto.tail in let h = c.requires.codes_in_bounds in omega arith;
      marks = q;
    }

pub read_watersheds-requires : goal.read_watersheds-requires
read_watersheds-requires c =
    let f = c.args.codes.now.size_bound in
    let r = raised c.args.codes.now.grid c.args.codes.now.codes.now c.args.starts.now c.args.tail.now c.receivers_from.new.tail c.cut_starts.new.tail
    c.args.codes.now.codes_len c.requires.starts_len c.args.codes.now.all_codes c.requires.codes_value c.requires.starts_value c.receivers_from.ensures
    c.cut_starts.ensures c.walk.new.tail c.walk.result c.walk.ensures in
    record {
      n_bound = omega arith;
      starts_len = c.requires.starts_len;
      n_in_bounds = let a = c.receivers_from.auto.tail in let b = c.cut_starts.auto.tail in let d = c.walk.auto.tail in let h = c.requires.codes_in_bounds in
          omega arith;
      watersheds_len = c.requires.watersheds_len;
      by_index = r;
    }

pub returns : goal.returns
returns c =
    c.read_watersheds.ensures
    ∙ watersheds_read c.args.codes.now.grid c.args.codes.now.codes.now c.args.starts.now c.args.tail.now c.receivers_from.new.tail
    c.cut_starts.new.tail c.args.codes.now.codes_len c.requires.starts_len c.args.codes.now.all_codes c.requires.codes_value
    c.requires.starts_value c.receivers_from.ensures c.cut_starts.ensures c.walk.new.tail c.walk.result c.walk.ensures

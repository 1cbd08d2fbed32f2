-- Side after side: what one side leaves without mark 1 stays so, and a step off the sheet through an open side crosses one of the four.
use mathlib.Core.Path.{◌∙◌}
use native.Mathlib.Omega.{arith}
use Rattle.join_laws.proofs.Search.{parts_same}
use Rattle.outside.proofs.Sides.{west, east, north, south}
use Rattle.outside.proofs.Seeds.{seeds_here, four_sides}
use Rattle.outside.proofs.seed_sides.Goals as goal

pub seed_side-west-requires : goal.seed_side-west-requires
seed_side-west-requires c =
    let some = c.requires.rows_nonzero in
    record {
      parts = c.requires.parts;
      half_le_base = c.requires.half_le_base;
      p_bound = omega arith;
      side = west c.args.g some.0 some.1;
      seeds_on = c.requires.seeds_on;
    }

pub seed_side-east-requires : goal.seed_side-east-requires
seed_side-east-requires c =
    let a = c.args in
    let some = c.requires.rows_nonzero in
    let here = seeds_here a.g a.base a.half a.work.now c.seed_side-west.new.work c.seed_side-west.result c.seed_side-west.ensures.seeds_on_2 in
    record {
      parts = parts_same c.requires.parts c.seed_side-west.auto.work;
      half_le_base = c.requires.half_le_base;
      p_bound = omega arith;
      side = east a.g some.0 some.1;
      seeds_on = here;
    }

pub seed_side-north-requires : goal.seed_side-north-requires
seed_side-north-requires c =
    let a = c.args in
    let some = c.requires.rows_nonzero in
    let here =
    seeds_here a.g a.base a.half c.seed_side-west.new.work c.seed_side-east.new.work c.seed_side-east.result c.seed_side-east.ensures.seeds_on_2 in
    record {
      parts = parts_same c.requires.parts (c.seed_side-east.auto.work ∙ c.seed_side-west.auto.work);
      half_le_base = c.requires.half_le_base;
      p_bound = omega arith;
      side = north a.g some.0 some.1;
      seeds_on = here;
    }

pub overflow_mul-rows : goal.overflow_mul-rows
overflow_mul-rows c =
    let g = c.args.g in
    let some = c.requires.rows_nonzero in
    let few = c.requires.parts.few in
    let there = ((south g some.0 some.1).there 0 some.1).0 in
    omega arith

pub seed_side-requires : goal.seed_side-requires
seed_side-requires c =
    let a = c.args in
    let some = c.requires.rows_nonzero in
    let here =
    seeds_here a.g a.base a.half c.seed_side-east.new.work c.seed_side-north.new.work c.seed_side-north.result c.seed_side-north.ensures.seeds_on_2 in
    record {
      parts = parts_same c.requires.parts (c.seed_side-north.auto.work ∙ c.seed_side-east.auto.work ∙ c.seed_side-west.auto.work);
      half_le_base = c.requires.half_le_base;
      p_bound = omega arith;
      side = south a.g some.0 some.1;
      seeds_on = here;
    }

pub returns : goal.returns
returns c =
    let a = c.args in
    let the_all = four_sides a.g a.base a.half a.work.now c.seed_side-west.new.work
    c.seed_side-east.new.work c.seed_side-north.new.work
    c.seed_side.new.work
    c.seed_side-west.result c.seed_side-east.result c.seed_side-north.result c.seed_side.result
    c.seed_side-west.ensures.seeds_on_2 c.seed_side-east.ensures.seeds_on_2 c.seed_side-north.ensures.seeds_on_2 c.seed_side.ensures.seeds_on_2
    c.seed_side-west.ensures.fact c.seed_side-east.ensures.fact c.seed_side-north.ensures.fact c.seed_side.ensures.fact in
    record {
      seeds_on_2 = the_all.0;
      by_index = the_all.1;
    }

-- The receivers stand, and what the walk says of them is said of the sheet.
use mathlib.Core.Path.{◌∙◌}
use native.Mathlib.Omega.{arith}
use lib.ListN.{drop}
use Rattle.grid.specs.Sheet.{size}
use Rattle.labelling.proofs.Sheet.{marks, first_endless_lem}
use Rattle.code_check.proofs.first_endless.Goals as goal

pub walk-requires : goal.walk-requires
walk-requires c =
    let f = c.args.codes.now.size_bound in
    let q = marks c.args.codes.now.grid c.args.codes.now.codes.now (drop (size c.args.codes.now.grid) c.args.tail.now) c.receivers_from.new.tail c.args.codes.now.codes_len
    c.receivers_from.ensures in
    record {
      n_bound = omega arith;
      n_in_bounds = let k = c.receivers_from.auto.tail in let h = c.requires.codes_in_bounds in omega arith;
      marks = q;
    }

pub returns : goal.returns
returns c =
    c.walk.ensures.first
    ∙ first_endless_lem c.args.codes.now.grid c.args.codes.now.codes.now (drop (size c.args.codes.now.grid) c.args.tail.now) c.receivers_from.new.tail c.args.codes.now.codes_len
    c.receivers_from.ensures

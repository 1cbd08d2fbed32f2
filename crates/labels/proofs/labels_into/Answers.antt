-- The receivers stand at the front of the tail, and what is said of them is said of the sheet.
use native.Mathlib.Omega.{arith}
use lib.ListN.{drop}
use Rattle.grid.specs.Sheet.{size}
use Rattle.labelling.proofs.Sheet.{marks, sheet_labels}
use Rattle.labels.proofs.labels_into.Goals as goal

pub labels_of-requires : goal.labels_of-requires
labels_of-requires c =
    let f = c.args.codes.now.size_bound in
    let q = marks c.args.codes.now.grid c.args.codes.now.codes.now (drop (size c.args.codes.now.grid) c.args.tail.now) c.receivers_from.new.tail c.args.codes.now.codes_len
    c.receivers_from.ensures in
    record {
      n_bound = omega arith;
      n_in_bounds = let k = c.receivers_from.auto.tail in let h = c.requires.codes_in_bounds in omega arith;
      marks = q;
      labels_len = c.requires.labels_len;
    }

pub returns : goal.returns
returns c =
    let the_all = sheet_labels c.args.codes.now.grid c.args.codes.now.codes.now (drop (size c.args.codes.now.grid) c.args.tail.now) c.receivers_from.new.tail c.args.codes.now.codes_len
    c.receivers_from.ensures c.args.labels.now c.labels_of.new.labels c.labels_of.result c.labels_of.ensures in
    record {
      value = the_all.0;
      labels_after = the_all.1;
    }

-- The receivers stand at the front of the tail, and what is counted from them is said of the sheet.
use native.Mathlib.Omega.{arith}
use lib.ListN.{drop}
use Rattle.grid.specs.Sheet.{size}
use Rattle.counting.proofs.Sheet.{ready_to_count, sheet_counts}
use Rattle.counts.proofs.counts_into.Goals as goal

pub counts_of-requires : goal.counts_of-requires
counts_of-requires c =
    let f = c.args.codes.now.size_bound in
    let k = c.receivers_from.auto.tail in
    let h = c.requires.codes_in_bounds in
    let q = ready_to_count c.args.codes.now.grid c.args.codes.now.codes.now (drop (size c.args.codes.now.grid) c.args.tail.now) c.receivers_from.new.tail
    c.args.codes.now.codes_len c.receivers_from.ensures (omega arith) (omega arith) in
    record {
      roomy = q.0;
      marks = q.1.0;
      few_donors = q.1.1;
      counts_len = c.requires.counts_len;
    }

pub returns : goal.returns
returns c =
    let the_all = sheet_counts c.args.codes.now.grid c.args.codes.now.codes.now (drop (size c.args.codes.now.grid) c.args.tail.now) c.receivers_from.new.tail c.args.codes.now.codes_len
    c.receivers_from.ensures c.counts_of.new.tail c.args.counts.now c.counts_of.new.counts c.counts_of.result c.counts_of.ensures in
    record {
      value = the_all.0;
      counts_after = the_all.1;
    }

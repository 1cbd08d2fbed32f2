use native.Mathlib.Omega.{arith}
use lib.ListN.{length}
use Rattle.drainage.proofs.Routed.{ready, ready_to_label, counts_right, labels_right}
use Rattle.drainage.proofs.route_results.Goals as goal

pub invariant_of-sheet : goal.invariant_of-sheet
invariant_of-sheet c =
    let R = c.requires in
    let small = R.fits.cells in
    record {
      size_bound = omega arith;
      rows_bound = R.fits.rows_low;
      codes_len = R.long;
      all_codes = R.all_codes;
    }

pub receivers_from-requires : goal.receivers_from-requires
receivers_from-requires c =
    let h = c.requires.room in
    omega arith

pub counts_of-requires : goal.counts_of-requires
counts_of-requires c =
    let a = c.args in
    let q = ready a.g a.codes.now (length a.counts.now) (length a.labels.now) a.tail.now
    c.receivers_from.new.tail c.requires
    c.receivers_from.auto.tail c.receivers_from.ensures in
    record {
      roomy = q.0;
      marks = q.1.0;
      few_donors = q.1.1;
      counts_len = c.requires.counts_have;
    }

pub labels_of-requires : goal.labels_of-requires
labels_of-requires c =
    let a = c.args in
    let q = ready_to_label a.g a.codes.now (length a.counts.now) (length a.labels.now) a.tail.now
    c.receivers_from.new.tail c.requires
    c.receivers_from.auto.tail c.receivers_from.ensures c.counts_of.new.tail a.counts.now c.counts_of.new.counts c.counts_of.result c.counts_of.ensures c.counts_of.auto.tail in
    record {
      n_bound = q.0;
      n_in_bounds = q.1.0;
      marks = q.1.1;
      labels_len = c.requires.labels_have;
    }

pub returns : goal.returns
returns c =
    let a = c.args in
    record {
      counts_after = counts_right a.g a.codes.now (length a.counts.now) (length a.labels.now) a.tail.now c.receivers_from.new.tail c.requires
          c.receivers_from.auto.tail c.receivers_from.ensures c.counts_of.new.tail a.counts.now c.counts_of.new.counts c.counts_of.result c.counts_of.ensures;
      labels_after = labels_right a.g a.codes.now (length a.counts.now) (length a.labels.now) a.tail.now c.receivers_from.new.tail c.requires
          c.receivers_from.auto.tail c.receivers_from.ensures c.counts_of.new.tail a.counts.now c.counts_of.new.counts c.counts_of.result c.counts_of.ensures
          a.labels.now c.labels_of.new.labels c.labels_of.result c.labels_of.ensures;
    }

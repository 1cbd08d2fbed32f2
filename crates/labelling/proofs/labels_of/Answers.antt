-- Labels are read off where the walk says that every route ends.
use native.Mathlib.Omega.{arith}
use Rattle.labelling.proofs.Labelled.{all_end, no_labels, raised, all_labels}
use Rattle.labelling.proofs.labels_of.Goals as goal

pub returns-then-first-n : goal.returns-then-first-n
returns-then-first-n c =
    no_labels c.args.n c.args.tail.now c.walk-first.new.tail c.args.labels.now c.walk-first.result c.walk-first.ensures c.if-first-n.true

pub read_labels-requires : goal.read_labels-requires
read_labels-requires c =
    let e = all_end c.args.n c.args.tail.now c.walk-first.new.tail c.args.labels.now c.walk-first.result c.walk-first.ensures
    c.if-first-n.false in
    let q = raised c.args.n c.args.tail.now c.walk-first.new.tail c.args.labels.now c.walk-first.result c.walk-first.ensures e in
    record {
      n_bound = c.requires.n_bound;
      n_in_bounds = let k = c.walk-first.auto.tail in omega arith;
      labels_len = c.requires.labels_len;
      by_index = q;
    }

pub returns : goal.returns
returns c =
    all_labels c.args.n c.args.tail.now c.walk-first.new.tail c.args.labels.now c.walk-first.result c.walk-first.ensures
    (all_end c.args.n c.args.tail.now c.walk-first.new.tail c.args.labels.now c.walk-first.result c.walk-first.ensures
    c.if-first-n.false) c.read_labels.new.labels c.read_labels.ensures

-- The tail begins with the receivers after each step, so the starts by marks are those of the codes.
use Rattle.starts.proofs.Into.{ready, endless_started, all_started}
use Rattle.starts.proofs.starts_into.Goals as goal

pub count_routes-first-requires : goal.count_routes-first-requires
count_routes-first-requires c =
    let a = c.args in
    let the_all = ready a.codes.now.grid a.codes.now.codes.now a.tail.now c.receivers_from.new.tail a.codes.now.size_bound a.codes.now.codes_len c.requires.codes_in_bounds c.receivers_from.auto.tail c.receivers_from.ensures in
    record {
      roomy = the_all.0;
      marks = the_all.1.0;
      few_donors = the_all.1.1;
    }

pub returns-then-first-n : goal.returns-then-first-n
returns-then-first-n c =
    let a = c.args in
    rw c.at.ensures
    (endless_started a.codes.now.grid a.codes.now.codes.now a.tail.now c.receivers_from.new.tail a.codes.now.size_bound a.codes.now.codes_len c.requires.codes_in_bounds c.receivers_from.auto.tail
    c.receivers_from.ensures
    c.count_routes-first.new.tail c.count_routes-first.result c.count_routes-first.ensures a.counts.now a.threshold a.starts.now c.if-first-n.true)

pub returns : goal.returns
returns c =
    let a = c.args in
    all_started a.codes.now.grid a.codes.now.codes.now a.tail.now c.receivers_from.new.tail a.codes.now.size_bound a.codes.now.codes_len c.requires.codes_in_bounds c.receivers_from.auto.tail
    c.receivers_from.ensures
    c.count_routes-first.new.tail c.count_routes-first.result c.count_routes-first.ensures a.counts.now a.threshold a.starts.now
    c.if-first-n.false
    c.number_starts-count.new.starts c.number_starts-count.result c.number_starts-count.ensures.starts_after c.number_starts-count.ensures.value

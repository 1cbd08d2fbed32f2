-- The result is written only behind the answer n.
use Rattle.counting.proofs.Copies.{no_counts, all_counts}
use Rattle.counting.proofs.counts_of.Goals as goal

pub returns-then-first-n : goal.returns-then-first-n
returns-then-first-n c = no_counts _ _ _ _ _ c.count_routes-first.ensures c.if-first-n.true

pub returns : goal.returns
returns c =
    all_counts _ _ _ _ _ _ c.count_routes-first.ensures
    c.if-first-n.false c.copy_counts.ensures

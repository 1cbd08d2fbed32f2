use native.Mathlib.Omega.{arith}
use Rattle.std.proofs.lemmas.List.Edits.{fill_by_more}
use Rattle.grid_laws.proofs.Below.{is_table}
use Rattle.count_laws.specs.Passing.{tally}
use Rattle.accumulation.specs.Tail.{word_at}
use Rattle.counting.proofs.copy_counts.Goals as goal

pub loop-i-preserved : goal.loop-i-preserved
unfolding tally
loop-i-preserved c =
    fill_by_more (λ k. tally (word_at c.args.n c.args.tail.now k)) c.loop-i.counts c.loop-i.i 0 (omega arith) c.loop-i.invariant

pub returns : goal.returns
returns c = is_table _ (λ k. tally (word_at c.args.n c.args.tail.now k)) c.loop-i.counts 0 (omega arith) (λ k m. c.loop-i.invariant k (omega arith))

-- The first i results are the counts of their words.
use mathlib.Core.Path.{◌≡◌}
use Prim.Native.Nat.{ℕ, ◌<◌}
use lib.ListN.{get_or}
use Rattle.count_laws.specs.Passing.{tally}
use Rattle.accumulation.specs.Tail.{word_at}
use Rattle.counting.proofs.copy_counts.Given as goal

abbrev pub invariant-loop-i : goal.invariant-loop-i
invariant-loop-i l = (c : ℕ) → c < l.i → get_or l.counts c 0 ≡ tally (word_at l.n l.tail c)

-- `ending::shared_length`: the walk back from both ends; the last k cells are alike.
use mathlib.Core.Path.{◌∙◌, sym}
use native.Mathlib.Omega.{arith}
use borrow.Author.Count.{below_more}
use Rattle.ending_laws.proofs.Longest.{stops_at, stops_after}
use Rattle.ending.proofs.shared_length.Goals as goal

pub returns-then-from_end : goal.returns-then-from_end
returns-then-from_end c =
    let a = c.args in
    record {
      value = stops_at a.first.now a.second.now c.loop-k.k (omega arith) c.loop-k.invariant
          (λ e. c.if-from_end.true (c.from_end.ensures ∙ e ∙ sym c.from_end-in-loop-k.ensures));
      upper_bound = omega arith;
    }

pub loop-k-preserved : goal.loop-k-preserved
loop-k-preserved c =
    below_more _ c.loop-k.k c.loop-k.invariant (sym c.from_end.ensures ∙ c.if-from_end.false ∙ c.from_end-in-loop-k.ensures)

pub returns : goal.returns
returns c =
    let a = c.args in
    record {
      value = stops_after a.first.now a.second.now c.min-n.result c.min-n.ensures
          (λ j h. c.loop-k.invariant j (omega arith));
      upper_bound = omega arith;
    }

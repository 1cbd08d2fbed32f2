use native.Mathlib.Omega.{arith}
use Rattle.starting.proofs.Numbers.{numbered_none, numbered_more, found_small, all_numbered}
use Rattle.starting.proofs.number_starts.Goals as goal

pub loop-c-init : goal.loop-c-init
loop-c-init c = numbered_none _ _ _ _ _

pub number_cell-found-requires-clause-found_bound : goal.number_cell-found-requires-clause-found_bound
number_cell-found-requires-clause-found_bound c = omega (arith, found_small _ _ _ _ _ _ _ _ c.loop-c.invariant)

pub loop-c-preserved : goal.loop-c-preserved
loop-c-preserved c =
    numbered_more _ _ _ _ _ _ _ _ _ _ c.loop-c.invariant (omega arith) c.number_cell-found.ensures.starts_after
    c.number_cell-found.ensures.value

pub returns : goal.returns
returns c =
    let the_all = all_numbered _ _ _ _ _ _ _ _ c.loop-c.invariant c.requires.starts_len (omega arith) (omega arith) in
    record {
      starts_after = the_all.0;
      value = the_all.1;
    }

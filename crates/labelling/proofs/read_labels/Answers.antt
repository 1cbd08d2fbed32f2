use Prim.Native.Nat.{◌+◌, ◌-◌}
use native.Mathlib.Omega.{arith}
use lib.ListN.{get_or}
use Rattle.std.proofs.lemmas.List.Edits.{fill_by_more}
use Rattle.grid_laws.proofs.Below.{is_table}
use Rattle.labelling.proofs.read_labels.Goals as goal

pub loop-c-preserved : goal.loop-c-preserved
loop-c-preserved c =
    fill_by_more (λ k. get_or c.args.tail.now k 0 - (c.args.n + 1)) c.loop-c.labels c.loop-c.c 0 (omega arith) c.loop-c.invariant

pub returns : goal.returns
returns c = is_table _ _ c.loop-c.labels 0 (omega arith) (λ k m. c.loop-c.invariant k (omega arith))

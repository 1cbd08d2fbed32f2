use native.Mathlib.Omega.{arith}
use Rattle.grid_laws.proofs.Below.{is_table}
use Rattle.watershed_walk.proofs.read_watersheds.Goals as goal

pub returns : goal.returns
returns c =
    is_table c.args.n _ c.loop-c.watersheds 0 (omega arith) (λ k b. c.loop-c.invariant k (omega arith))

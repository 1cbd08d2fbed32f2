use Prim.Native.Nat.{◌/◌}
use native.Mathlib.Omega.{arith}
use lib.ListN.{length}
use Rattle.flow_laws.proofs.Words.{levelled}
use Rattle.levels.proofs.levels.Goals as goal

pub returns : goal.returns
returns c =
    levelled c.args.t.now.raster.grid c.args.t.now.elevations.now c.args.t.now.elevations_len (length c.args.work.now / 2) _
    c.empty_queue.ensures (omega arith) (omega arith)

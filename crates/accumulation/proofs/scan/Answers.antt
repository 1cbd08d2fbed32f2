use native.Mathlib.Omega.{arith}
use Rattle.accumulation.proofs.Stores.{kept_roomy}
use Rattle.accumulation.proofs.Walk.{scan_starts, scan_turn, scan_ends, again_between}
use Rattle.accumulation.proofs.scan.Goals as goal

pub loop-i-init : goal.loop-i-init
loop-i-init c = scan_starts _ _ c.requires.between

pub visit-left-requires : goal.visit-left-requires
visit-left-requires c =
    let S = c.loop-i.invariant in
    record {
      roomy = kept_roomy _ _ _ S.0.kept c.requires.roomy;
      i_lt_n = omega arith;
      between = again_between _ _ _ _ S.0;
    }

pub loop-i-preserved : goal.loop-i-preserved
loop-i-preserved c =
    scan_turn _ _ _ _ _ _ _ c.loop-i.invariant (omega arith) c.visit-left.ensures

pub returns : goal.returns
returns c = scan_ends _ _ _ _ _ c.loop-i.invariant (omega arith)

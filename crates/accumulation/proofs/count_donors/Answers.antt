use native.Mathlib.Omega.{arith}
use mathlib.Core.Path.{◌≡◌}
use Rattle.accumulation.proofs.Stores.{donors_start, donors_turn, kept_roomy, donor_fits}
use Rattle.accumulation.proofs.count_donors.Goals as goal

pub loop-d-init : goal.loop-d-init
loop-d-init c = donors_start _ _ c.requires.by_index

pub add_donor-requires : goal.add_donor-requires
add_donor-requires c =
    let D = c.loop-d.invariant in
    record {
      roomy = kept_roomy _ _ _ D.0 c.requires.roomy;
      d_lt_n = omega arith;
      by_index = donor_fits _ _ _ _ c.requires.roomy D.0 c.requires.few_donors (omega arith) D.1;
    }

pub loop-d-preserved : goal.loop-d-preserved
loop-d-preserved c =
    donors_turn _ _ c.loop-d.tail _ _ c.requires.roomy c.requires.few_donors (omega arith) c.loop-d.invariant c.add_donor.ensures

pub returns : goal.returns
returns c =
    let e : c.loop-d.d ≡ c.args.n = omega arith in
    let (K, D) = c.loop-d.invariant in
    record {
      kept = K;
      donors_to = rw e at D;
    }

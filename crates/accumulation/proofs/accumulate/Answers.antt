-- Words of 0, then the donors, then the scan: each begins where the one before ended.
use Rattle.accumulation.proofs.Stores.{kept_roomy, kept_twice, same_few}
use Rattle.accumulation.proofs.Walk.{again_between, begins, scanned_after}
use Rattle.accumulation.proofs.accumulate.Goals as goal

pub count_donors-requires : goal.count_donors-requires
count_donors-requires c =
    record {
      roomy = kept_roomy _ _ _ c.clear.ensures.kept c.requires.roomy;
      few_donors = same_few _ _ _ c.clear.ensures.kept c.requires.few_donors;
      by_index = c.clear.ensures.by_index;
    }

pub scan-requires : goal.scan-requires
scan-requires c =
    let K = c.clear.ensures.kept in
    record {
      roomy = kept_roomy _ _ _ c.count_donors.ensures.kept (kept_roomy _ _ _ K c.requires.roomy);
      between = again_between _ _ _ _ (begins _ _ _ c.count_donors.ensures.kept (same_few _ _ _ K c.requires.few_donors) c.count_donors.ensures.donors_to);
    }

pub returns : goal.returns
returns c =
    let K = c.clear.ensures.kept in
    let D = c.count_donors.ensures.kept in
    scanned_after _ _ _ _ _ (kept_twice _ _ _ _ K D) c.scan.ensures

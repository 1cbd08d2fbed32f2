use lib.ListN.{get_or}
use Rattle.levels.proofs.Keyed.{zero_tests}
use Rattle.levels.proofs.is_zero_at.Goals as goal

pub returns : goal.returns
returns c =
    let own = c.short_key_at-own.ensures in
    zero_tests c.args.k (get_or c.args.work.now c.args.m 0) own.value own.void_bound

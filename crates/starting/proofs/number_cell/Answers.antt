-- By the answer to the test.
use Rattle.starting.proofs.Numbers.{no_number, one_number}
use Rattle.std.proofs.lemmas.Bool.{not_from_false, not_from_true}
use Rattle.starting.proofs.number_cell.Goals as goal

pub returns-then-not-is_start : goal.returns-then-not-is_start
returns-then-not-is_start c =
    let a = c.args in
    let the_all = no_number _ _ a.starts.now a.c _ c.is_start.ensures (not_from_false _ c.if-not-is_start.true) in
    record {
      starts_after = the_all.0;
      value = the_all.1;
    }

pub returns : goal.returns
returns c =
    let a = c.args in
    let the_all = one_number _ _ a.starts.now a.c _ c.is_start.ensures (not_from_true _ c.if-not-is_start.false) in
    record {
      starts_after = the_all.0;
      value = the_all.1;
    }

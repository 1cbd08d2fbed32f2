-- None left: every route ends, and the words hold the counts. Some left: some route does not end, and the walk says which is the first.
use Rattle.accumulation.proofs.Routes.{all_counted, long_after, marks_after, some_endless}
use Rattle.accumulation.proofs.count_routes.Goals as goal

pub returns-then-left-eq0 : goal.returns-then-left-eq0
returns-then-left-eq0 c =
    all_counted _ _ _ _ c.requires.roomy c.requires.marks c.accumulate-left.ensures c.if-left-eq0.true

pub walk-requires : goal.walk-requires
walk-requires c =
    let A = c.accumulate-left.ensures in
    record {
      n_bound = c.requires.roomy.small;
      n_in_bounds = long_after _ _ _ _ c.requires.roomy A;
      marks = marks_after _ _ _ _ A c.requires.marks;
    }

pub returns : goal.returns
returns c =
    let A = c.accumulate-left.ensures in
    some_endless _ _ _ _ _ _ c.requires.roomy c.requires.marks A c.if-left-eq0.false c.walk.ensures

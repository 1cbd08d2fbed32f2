use Rattle.flood.proofs.Halves.{wanted_low, touch_yes}
use Rattle.flood.proofs.touch.Goals as goal

pub reach-requires-clause-m_bound : goal.reach-requires-clause-m_bound
reach-requires-clause-m_bound c =
    let a = c.args in
    wanted_low a.n a.half a.v a.m a.work.now (c.wanted.ensures.wanted c.if-not-wanted.false)

pub returns : goal.returns
returns c =
    let a = c.args in
    let W = c.wanted.ensures.wanted c.if-not-wanted.false in
    let the_all = touch_yes a.n a.half a.v a.len a.m a.work.now c.reach.new.work c.requires.n_bound_2 c.requires.n_in_bounds
    (c.requires.room a.m W.0.0 W.2) c.reach.ensures.value c.reach.ensures.work_after W in
    record {
      front_unchanged = the_all.0;
      touched = the_all.1;
    }

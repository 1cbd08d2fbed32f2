use mathlib.Core.Path.{◌≡◌, refl, ◌∙◌}
use Rattle.flow_laws.specs.Words.{levels_in}
use Rattle.flow_laws.proofs.Leads.{is_below}
use Rattle.flow.proofs.Flats.{summed_none, summed_more, summed_all, below_is, none_below}
use Rattle.flow.proofs.flat_sum.Goals.{in-Some, in-None}
use Rattle.flow.proofs.flat_sum.Goals as goal

pub loop-p-init : goal.loop-p-init
loop-p-init g c = let a = c.args in summed_none a.t.now.raster.grid a.t.now.elevations.now a.work.now a.cell

pub loop-p-preserved : goal.loop-p-preserved
loop-p-preserved g c =
    let a = c.args in
    let e = a.t.now.elevations.now in
    let p = c.loop-p.p in
    let own = c.requires.cell_value in
    let word = c.requires.word_value in
    let some = c.requires.k_nonzero in
    let is : c.match-near.below ≡ is_below a.t.now.raster.grid e (levels_in a.t.now.raster.grid a.work.now) a.cell p =
    elim c.match-near.branch [
      | in-Some w ↦
          w.below-is
          ∙ below_is a.t.now.raster.grid e c.args.t.now.elevations_len a.work.now a.cell c.requires.cell_bound a.k a.word own some word p w.in-Some.m
          w.in-Some.ensures.0 w.is_below-below.result w.is_below-below.ensures.m_value w.is_below-below.ensures.fact_2
      | in-None w ↦
          w.below-is
          ∙ none_below a.t.now.raster.grid e c.args.t.now.elevations_len a.work.now a.cell c.requires.cell_bound a.k a.word own some word p _ refl w.in-None.ensures
    ] in
    summed_more a.t.now.raster.grid e a.work.now a.cell p c.loop-p.sum c.match-near.below c.loop-p.invariant c.loop-p-test.true is c.with_code-sum.ensures.value
    c.with_code-sum.ensures.upper_bound

pub returns : goal.returns
returns g c =
    let a = c.args in
    let the_all = summed_all a.t.now.raster.grid a.t.now.elevations.now a.work.now a.cell c.loop-p.p c.loop-p.sum c.loop-p.invariant c.loop-p-test.false in
    record {
      value = the_all.0;
      upper_bound = the_all.1;
    }

use native.Mathlib.Omega.{arith}
use mathlib.Core.Path.{◌≡◌, ◌∙◌}
use Rattle.grid.specs.Sheet.{size}
use Rattle.pond_columns.proofs.Gathering.{write_more, written_all, gather_first, number_is, fits, added}
use Rattle.pond_columns.proofs.gather.Goals as goal

pub loop-c-init : goal.loop-c-init
loop-c-init c =
    let a = c.args in (
      λ d h. let z : ⊥ = omega arith in absurd z,
      gather_first a.g a.elevations.now a.work.now a.count c.requires.sizes c.requires.numbered a.level.now a.cells.now
          a.volume.now c.requires.by_index c.requires.by_index_2,
    )

pub add-requires : goal.add-requires
add-requires c =
    let a = c.args in
    let t = c.loop-c-test.true in
    let e = c.mark_at-mark.ensures in
    rw e (λ h. fits a.g a.elevations.now a.work.now a.count c.requires.sizes c.requires.numbered c.loop-c.c t c.loop-c.invariant.1
    c.requires.count_in_bounds
    c.requires.one_length h)

pub loop-c-preserved : goal.loop-c-preserved
loop-c-preserved c =
    let t = c.loop-c-test.true in
    let a = c.args in
    let N = c.requires.numbered in
    let e = c.mark_at-mark.ensures in
    let v = c.saturating_sub.ensures in
    let h = c.requires.ponds_len in
    let k = c.loop-c.auto.ponds in (
      write_more a.g a.elevations.now c.loop-c.ponds c.loop-c.c c.saturating_sub.result (omega arith)
          (v ∙ rw e (number_is a.g a.elevations.now a.work.now a.count c.requires.sizes N c.loop-c.c t)) c.loop-c.invariant.0,
      added a.g a.elevations.now a.work.now a.count c.requires.sizes N c.loop-c.c t c.loop-c.invariant.1 c.requires.count_in_bounds
          c.requires.one_length (rw e at c.add.ensures),
    )

pub returns : goal.returns
returns c =
    let a = c.args in
    let t = c.loop-c-test.false in
    let q : c.loop-c.c ≡ size a.g = omega arith in
    record {
      ponds_after = written_all a.g a.elevations.now c.loop-c.ponds (c.loop-c.auto.ponds ∙ c.requires.ponds_len) (rw q at c.loop-c.invariant.0);
      gathered = rw q at c.loop-c.invariant.1;
    }

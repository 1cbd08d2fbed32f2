use mathlib.Core.Path.{◌≡◌}
use lib.ListN.{length}
use native.Mathlib.Omega.{arith}
use Rattle.fill.proofs.Loops.{load_more, load_end}
use Rattle.fill.proofs.load.Goals as goal

pub loop-i-preserved : goal.loop-i-preserved
loop-i-preserved c = load_more c.args.elevations.now c.loop-i.work c.loop-i.i c.key_at.result (omega arith) c.key_at.ensures.value c.key_at.ensures.elevation c.loop-i.invariant

pub returns : goal.returns
returns c =
    let a = c.args in
    let e : c.loop-i.i ≡ length a.elevations.now = omega arith in
    record {
      by_index = (λ x h. (c.loop-i.invariant x (omega arith)).0);
      sixteen_bits = load_end a.elevations.now c.loop-i.work (rw e at c.loop-i.invariant);
    }

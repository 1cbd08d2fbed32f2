use native.Mathlib.Omega.{arith}
use mathlib.Core.Path.{refl}
use Rattle.grid_laws.proofs.Widths.{wide}
use Rattle.grid_laws.proofs.Cells.{word_void, word_top}
use Rattle.cells.proofs.Words.{sum_fits, sum_is, word_small}
use Rattle.cells.proofs.key.Goals as goal

pub overflow_cast-result : goal.overflow_cast-result
overflow_cast-result c = wide c.args.e c.ranges.e

pub overflow_sub-result : goal.overflow_sub-result
overflow_sub-result c = sum_fits c.args.e c.ranges.e

pub overflow_cast-result-3 : goal.overflow_cast-result-3
overflow_cast-result-3 c =
    rw (sum_is c.args.e c.ranges.e) (tt, record { fits = omega (arith, word_small c.args.e c.ranges.e.sfits) })

pub returns : goal.returns
returns c =
    let e = c.args.e in
    let h = c.ranges.e.sfits in
    record {
      value = rw (sum_is e c.ranges.e) refl;
      upper_bound = rw (sum_is e c.ranges.e) (word_small e h);
      elevation = (word_void e h, word_top e h);
    }

-- One store, or none where the mark is no cell.
use native.Mathlib.Omega.{arith}
use mathlib.Core.Path.{refl}
use Rattle.accumulation.specs.Tail.{mark_at}
use Rattle.accumulation.proofs.Stores.{donor_none, donor_one}
use Rattle.accumulation.proofs.add_donor.Goals as goal

pub returns-then-next-n : goal.returns-then-next-n
returns-then-next-n c = donor_none _ _ _ _ refl c.if-next-n.true

pub overflow_add-tail-2 : goal.overflow_add-tail-2
overflow_add-tail-2 c = omega (arith, c.requires.by_index (mark_at c.args.tail.now c.args.d) c.if-next-n.false)

pub returns : goal.returns
returns c = donor_one _ _ _ _ refl c.if-next-n.false

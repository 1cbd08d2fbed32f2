use native.Mathlib.Omega.{arith}
use Rattle.flood.proofs.Halves.{void_there, too_high, is_wanted}
use Rattle.flood.proofs.wanted.Goals as goal

pub returns-then-word-eq0-clause-fact : goal.returns-then-word-eq0-clause-fact
returns-then-word-eq0-clause-fact c =
    let a = c.args in
    (void_there a.n a.half a.v a.m a.work.now c.if-word-eq0.true).1

pub returns-then-v-word-clause-fact : goal.returns-then-v-word-clause-fact
returns-then-v-word-clause-fact c =
    let a = c.args in
    (too_high a.n a.half a.v a.m a.work.now c.if-v-word.true).1

pub returns-clause-wanted : goal.returns-clause-wanted
returns-clause-wanted c =
    let a = c.args in
    (is_wanted a.n a.half a.v a.m a.work.now (omega arith) (omega arith) (λ e. omega arith) c.if-v-word.false).0

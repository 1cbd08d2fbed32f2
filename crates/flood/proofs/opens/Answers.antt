use native.Mathlib.Omega.{arith}
use Rattle.flood.proofs.Halves.{opens_void, opens_not, opens_reached}
use Rattle.flood.proofs.opens.Goals as goal

pub returns-then-word-eq0 : goal.returns-then-word-eq0
returns-then-word-eq0 c =
    let a = c.args in
    let the_all = opens_void a.n a.half a.m a.work.now (omega arith) c.if-word-eq0.true in
    record {
      outside_or_reached = the_all.0;
      fact = the_all.1;
    }

pub returns-then-word-lt65536-clause-fact : goal.returns-then-word-lt65536-clause-fact
returns-then-word-lt65536-clause-fact c =
    let a = c.args in
    (opens_not a.n a.half a.m a.work.now (omega arith) (λ e. omega arith) c.if-word-lt65536.true).1

pub returns-clause-outside_or_reached : goal.returns-clause-outside_or_reached
returns-clause-outside_or_reached c =
    let a = c.args in
    (opens_reached a.n a.half a.m a.work.now (omega arith) c.if-word-lt65536.false).0

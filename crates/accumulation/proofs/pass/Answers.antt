-- Two stores, or one where the route ends; that the receiver waits for this cell leaves room for the difference and the sum.
use mathlib.Core.Path.{refl}
use Rattle.accumulation.proofs.Walk.{closes, hands, goes_on, stops, word_awaits}
use Rattle.accumulation.proofs.pass.Goals as goal

pub returns-then-next-n : goal.returns-then-next-n
returns-then-next-n c =
    let the_all = closes _ _ _ _ refl c.if-next-n.true in
    record {
      tail_after = the_all.0;
      value = the_all.1;
    }

pub overflow_sub-word : goal.overflow_sub-word
overflow_sub-word c = word_awaits _ _ _ _ refl c.requires.ready c.if-next-n.false

pub returns-then-word-lt-UNIT : goal.returns-then-word-lt-UNIT
returns-then-word-lt-UNIT c =
    let e = refl in
    let h = c.if-next-n.false in
    record {
      tail_after = hands _ _ _ _ e h;
      value = goes_on _ _ _ _ e h c.if-word-lt-UNIT.true;
    }

pub returns : goal.returns
returns c =
    let e = refl in
    let h = c.if-next-n.false in
    record {
      tail_after = hands _ _ _ _ e h;
      value = stops _ _ _ _ e h c.if-word-lt-UNIT.false;
    }

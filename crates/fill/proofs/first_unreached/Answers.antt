use mathlib.Core.Path.{◌≡◌, sym, ◌∙◌}
use mathlib.Core.Bool.{false}
use native.Mathlib.Omega.{arith}
use borrow.Author.Count.{below_more}
use Rattle.grid_laws.proofs.Below.{first_is, first_none}
use Rattle.fill.specs.Words.{is_unreached}
use Rattle.fill.proofs.Loops.{unreached_here}
use Rattle.fill.proofs.first_unreached.Goals as goal

pub returns-then-is_unreached : goal.returns-then-is_unreached
returns-then-is_unreached c =
    let a = c.args in
    sym (first_is a.n (is_unreached a.work.now) c.loop-c.c c.loop-c-test.true
    (unreached_here a.work.now c.loop-c.c c.is_unreached.ensures ∙ c.if-is_unreached.true) c.loop-c.invariant)

pub loop-c-preserved : goal.loop-c-preserved
loop-c-preserved c =
    let a = c.args in
    below_more (λ x. is_unreached a.work.now x ≡ false) c.loop-c.c c.loop-c.invariant
    (unreached_here a.work.now c.loop-c.c c.is_unreached.ensures ∙ c.if-is_unreached.false)

pub returns : goal.returns
returns c =
    let a = c.args in
    sym (first_none a.n (is_unreached a.work.now) (λ x h. c.loop-c.invariant x (omega arith)))

-- The invariant is `Going`: the pass, with one cell in hand that awaits nothing. Each turn leaves one cell less, which is the measure.
use native.Mathlib.Omega.{arith}
use Rattle.accumulation.proofs.Stores.{kept_roomy}
use Rattle.accumulation.proofs.Walk.{is_ready, some_left, down_starts, down_turn, down_ends}
use Rattle.accumulation.proofs.go_down.Goals as goal

pub loop-c-init : goal.loop-c-init
loop-c-init c = down_starts _ _ _ _ c.requires.between c.requires.start_bound

pub pass-c-requires : goal.pass-c-requires
pass-c-requires c =
    let G = c.loop-c.invariant in
    let on = c.loop-c-test.true in
    record {
      roomy = kept_roomy _ _ _ G.between.kept c.requires.roomy;
      ready = is_ready _ _ _ _ _ c.requires.roomy G.between on (G.in_hand on);
    }

pub overflow_sub-left : goal.overflow_sub-left
overflow_sub-left c =
    let G = c.loop-c.invariant in
    let on = c.loop-c-test.true in
    some_left _ _ _ _ _ c.requires.roomy G.between on (G.in_hand on)

pub loop-c-smaller : goal.loop-c-smaller
loop-c-smaller c =
    let h = (let G = c.loop-c.invariant in let on = c.loop-c-test.true in some_left _ _ _ _ _ c.requires.roomy G.between on (G.in_hand on)) in omega arith

pub loop-c-preserved : goal.loop-c-preserved
loop-c-preserved c =
    down_turn _ _ _ _ _ _ _ _ c.requires.roomy c.loop-c.invariant
    c.loop-c-test.true
    c.pass-c.ensures.tail_after c.pass-c.ensures.value

pub returns : goal.returns
returns c = down_ends _ _ _ _ _ _ c.loop-c.invariant c.loop-c-test.false

-- The eight steps one after the other: what stands at those before p is settled. A step off the sheet reaches nothing.
use native.Mathlib.Omega.{arith}
use mathlib.Core.Logic.{inl}
use mathlib.Core.Path.{refl, ◌∙◌}
use Rattle.flood_laws.proofs.Steps.{spread_more, spread_end, during_room}
use Rattle.flood.proofs.spread_around.Goals.{in-Some, in_default}
use Rattle.flood.proofs.spread_around.Goals as goal

pub touch-tail-requires-clause-room : goal.touch-tail-requires-clause-room
touch-tail-requires-clause-room g c =
    let a = c.args in
    during_room a.r.now.grid _ _ a.k a.v a.head c.loop-p.tail c.loop-p.invariant.1.during

pub loop-p-preserved : goal.loop-p-preserved
loop-p-preserved g c =
    let a = c.args in
    let I = c.loop-p.invariant in
    elim c.match-near.branch [
      | in-Some w ↦
          let e = w.in-Some.ensures.0 in
          rw w.work-is (rw w.tail-is (
            w.touch-tail.ensures.front_unchanged ∙ I.0,
            spread_more a.r.now.grid _ _ a.k a.v a.head c.loop-p.tail _ c.loop-p.p I.1 c.loop-p-test.true e (rw I.0 at w.touch-tail.ensures.touched),
          ))
      | in_default w ↦
          let off = w.in_default.ensures in
          rw w.work-is (rw w.tail-is (
            I.0,
            spread_more a.r.now.grid _ _ a.k a.v a.head c.loop-p.tail _ c.loop-p.p I.1 c.loop-p-test.true refl
                (inl (refl, refl, λ t. let y = t.0 in let z : ⊥ = omega arith in absurd z)),
          ))
    ]

pub returns-clause-during : goal.returns-clause-during
returns-clause-during g c =
    let a = c.args in
    spread_end a.r.now.grid _ _ a.k a.v a.head c.loop-p.tail _ c.loop-p.p c.loop-p.invariant.1 c.loop-p-test.false

-- Each cell of the side is touched; those before it keep having no mark 1.
use mathlib.Core.Path.{◌≡◌, sym, ◌∙◌, subst}
use mathlib.Core.Bool.{true}
use Rattle.grid_laws.proofs.Tests.{true_false}
use Prim.Native.Nat.{ℕ, ◌+◌, ◌*◌}
use native.Mathlib.Omega.{arith}
use lib.ListN.{length, get_or}
use borrow.Author.Count.{below_more}
use Rattle.grid.specs.Sheet.{size}
use Rattle.grid.specs.Outlet.{is_open}
use Rattle.join_laws.specs.Search.{Parts}
use Rattle.join_laws.proofs.Search.{parts_same, queue_room}
use Rattle.outside.proofs.Seeds.{seeds_here, seeds_then, ones_back, seed_step, side_open}
use Rattle.outside.proofs.seed_side.Goals as goal

pub returns-then-not-is_open : goal.returns-then-not-is_open
returns-then-not-is_open c =
    record {
      seeds_on_2 = c.requires.seeds_on;
      fact = λ o. true_false o (sym c.is_open.ensures ∙ c.if-not-is_open.true);
    }

pub touch-tail-requires : goal.touch-tail-requires
touch-tail-requires c =
    let a = c.args in
    let there = (c.requires.side.there c.loop-i.i c.loop-i-test.true).0 in
    let P : Parts (size a.g) a.base a.half (length c.loop-i.work) = parts_same c.requires.parts c.loop-i.auto.work in
    record {
      parts = P;
      m_lt_n = there;
      len_lt_n = λ one. queue_room a.g a.base a.half 2 (omega arith) c.loop-i.work P 0 c.loop-i.tail c.loop-i.invariant.0.searching
          (a.start + c.loop-i.i * a.stride) there one;
    }

pub loop-i-preserved : goal.loop-i-preserved
loop-i-preserved c =
    let a = c.args in
    let h = c.loop-i-test.true in
    let there = c.requires.side.there c.loop-i.i h in
    let low = c.requires.half_le_base in
    let w = c.loop-i.work in
    let S = c.loop-i.invariant.0 in
    let P : Parts (size a.g) a.base a.half (length w) = parts_same c.requires.parts c.loop-i.auto.work in
    let opens : is_open a.g a.p ≡ true = sym c.is_open.ensures ∙ c.if-not-is_open.false in
    let k =
    seed_step a.g a.base a.half w c.loop-i.tail P low (seeds_here a.g a.base a.half a.work.now w c.loop-i.tail S)
    (a.start + c.loop-i.i * a.stride) there.0 (side_open a.g a.p _ c.requires.p_bound opens there.1)
    c.touch-tail.new.work c.touch-tail.result c.touch-tail.ensures in (
      seeds_then a.g a.base a.half a.work.now w c.touch-tail.new.work c.loop-i.tail c.touch-tail.result S k.0,
      below_more (λ j. get_or c.touch-tail.new.work (a.base + (a.start + j * a.stride)) 0 ≡ 1 → ⊥) c.loop-i.i
          (λ j m one. c.loop-i.invariant.1 j m (ones_back a.g a.base a.half w c.touch-tail.new.work c.touch-tail.result
          k.0 (a.start + j * a.stride) (c.requires.side.there j (omega arith)).0 one))
          k.1,
    )

pub returns : goal.returns
returns c =
    let a = c.args in
    let past = c.loop-i-test.false in
    record {
      seeds_on_2 = c.loop-i.invariant.0;
      fact = λ o x on off. let w = c.requires.side.all x on off in
          let k = w.1 in
          subst (λ (y : ℕ). get_or c.loop-i.work (a.base + y) 0 ≡ 1 → ⊥) w.2 (c.loop-i.invariant.1 w.0 (omega arith));
    }

use mathlib.Core.Path.{sym}
use mathlib.Core.Bool.{true≢false}
use native.Mathlib.Omega.{arith}
use lib.ListN.{get_or}
use borrow.Author.Tests.{ltb-true, ltb-false}
use Rattle.levels.proofs.Keyed.{differs, agrees, height_data}
use Rattle.flow.proofs.Flats.{below, below_range}
use Rattle.flow.proofs.is_below.Goals as goal

pub returns-then-own-k : goal.returns-then-own-k
returns-then-own-k c =
    record {
      m_value = (λ q. absurd (true≢false (sym q)));
      fact_2 = λ q h a b. differs c.args.k c.short_key_at-own.result c.short_key_at-own.ensures.value c.if-own-k.true h;
    }

pub returns-then-near-low : goal.returns-then-near-low
returns-then-near-low c =
    let a = c.args in
    let near = get_or a.work.now a.m 0 in
    record {
      m_value = (λ q. absurd (true≢false (sym q)));
      fact_2 = λ q h u v.
          let w = below_range near a.low a.word c.requires.le_word c.requires.low_value c.requires.low_value_2 u v in
          let l = w.0 in
          let t = c.if-near-low.true in
          omega arith;
    }

pub returns : goal.returns
returns c =
    let a = c.args in
    let near = get_or a.work.now a.m 0 in
    let height = agrees a.k c.short_key_at-own.result c.short_key_at-own.ensures.value c.short_key_at-own.ensures.void_bound c.if-own-k.false in
    let no_void = c.requires.fact (height_data a.elevations.now a.m a.k height c.requires.k_nonzero) in
    record {
      m_value = (λ q. (height, below near a.low a.word c.requires.le_word c.requires.low_value c.requires.low_value_2 c.if-near-low.false (ltb-true near a.word q) no_void));
      fact_2 = λ q h u v.
          let w = below_range near a.low a.word c.requires.le_word c.requires.low_value c.requires.low_value_2 u v in
          let l = w.1 in
          let t = ltb-false near a.word q in
          omega arith;
    }

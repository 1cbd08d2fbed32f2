-- The words are those of the sheet that the keys spell, so what is unloaded is its filled sheet.
use mathlib.Core.Path.{◌≡◌, sym, ◌∙◌}
use native.Mathlib.Omega.{arith}
use borrow.Author.Tests.{eq-eqb, ne_eqb}
use Rattle.grid.specs.Sheet.{size}
use Rattle.grid_laws.proofs.Tests.{cond_true, cond_false}
use Rattle.checks.proofs.Questions.{stranded_≤}
use Rattle.fill.specs.Words.{sheet_in}
use Rattle.fill.proofs.Words.{sheet_length, sheet_sixteen, unloaded_filled}
use Rattle.fill.proofs.fill_loaded.Goals as goal

-- a stranded cell: nothing is written
pub returns-then-first-n : goal.returns-then-first-n
returns-then-first-n c =
    let n = size c.args.s.now.grid in
    let short = c.if-first-n.true in
    record {
      value = c.fill_words-first.ensures.value;
      filled_after = sym (cond_false _ _ (ne_eqb c.fill_words-first.result n (λ q. let z : ⊥ = omega arith in absurd z)));
      marked = c.fill_words-first.ensures.marked;
    }

pub returns : goal.returns
returns c =
    let a = c.args in
    let n = size a.s.now.grid in
    let most = stranded_≤ a.s.now.grid (sheet_in n a.work.now) in
    let first = c.fill_words-first.ensures.value in
    let end = c.if-first-n.false in
    let none : c.fill_words-first.result ≡ n = omega arith in
    record {
      value = first;
      filled_after = unloaded_filled a.s.now.grid (sheet_in n a.work.now) c.fill_words-first.new.work (sheet_length n a.work.now)
          (sheet_sixteen n a.work.now c.requires.are_keys) (c.fill_words-first.ensures.words none)
          c.unload.new.filled (c.unload.auto.filled ∙ c.requires.filled_len) c.unload.ensures
          ∙ sym (cond_true _ _ (eq-eqb c.fill_words-first.result n none));
      marked = c.fill_words-first.ensures.marked;
    }

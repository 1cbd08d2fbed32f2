-- A walk along the list: no entry before the place k is bad.
use mathlib.Core.Path.{◌∙◌}
use native.Mathlib.Omega.{arith}
use borrow.Author.Count.{below_more}
use Rattle.culvert_entries.proofs.Asked.{tested, bad_found, none_found}
use Rattle.std.proofs.lemmas.Bool.{not_from_false, not_from_true}
use Rattle.culvert_entries.proofs.first_bad_entry.Goals as goal

pub returns-then-not-is_level_for : goal.returns-then-not-is_level_for
returns-then-not-is_level_for c =
    let a = c.args in
    bad_found a.elevations.now a.cells.now a.levels.now c.loop-k.k (omega arith) c.loop-k.invariant
    (tested a.elevations.now a.cells.now a.levels.now c.loop-k.k c.key_at-key.result (omega (arith, c.requires))
    (c.key_at-key.ensures.value, (c.key_at-key.ensures.upper_bound, c.key_at-key.ensures.elevation)) c.is_level_for.ensures
    ∙ (not_from_false _ c.if-not-is_level_for.true))

pub loop-k-preserved : goal.loop-k-preserved
loop-k-preserved c =
    let a = c.args in
    below_more _ c.loop-k.k c.loop-k.invariant
    (tested a.elevations.now a.cells.now a.levels.now c.loop-k.k c.key_at-key.result (omega (arith, c.requires))
    (c.key_at-key.ensures.value, (c.key_at-key.ensures.upper_bound, c.key_at-key.ensures.elevation)) c.is_level_for.ensures
    ∙ (not_from_true _ c.if-not-is_level_for.false))

pub returns : goal.returns
returns c =
    let a = c.args in none_found a.elevations.now a.cells.now a.levels.now c.loop-k.k (omega arith) c.loop-k.invariant

-- Each way out by its test of the level's key.
use mathlib.Core.Path.{sym}
use Rattle.culvert_entries.proofs.Asked.{void_level, level_test}
use Rattle.culvert_entries.proofs.is_level_for.Goals as goal

pub returns-then-key-eq0 : goal.returns-then-key-eq0
returns-then-key-eq0 c =
    let a = c.args in
    sym (void_level a.elevations.now a.cell c.key_at-here.result (c.key_at-here.ensures.value, (c.key_at-here.ensures.upper_bound, c.key_at-here.ensures.elevation)) a.key c.if-key-eq0.true)

pub returns : goal.returns
returns c =
    let a = c.args in
    level_test a.elevations.now a.cell c.key_at-here.result (c.key_at-here.ensures.value, (c.key_at-here.ensures.upper_bound, c.key_at-here.ensures.elevation)) a.key c.if-key-eq0.false

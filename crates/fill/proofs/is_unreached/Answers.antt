use Rattle.fill.proofs.Loops.{no_key, by_level}
use Rattle.fill.proofs.is_unreached.Goals as goal

pub returns-then-word-eq0 : goal.returns-then-word-eq0
returns-then-word-eq0 c = no_key c.args.word c.if-word-eq0.true

pub returns : goal.returns
returns c = by_level c.args.word c.if-word-eq0.false

-- Each no is the answer of its question; after the last yes there is none.
use Rattle.watershed_walk.proofs.Asking.{answer_13, answer_24, answer_yes}
use Rattle.watershed_walk.proofs.starts_check.Goals as goal

pub returns-then-stray-given : goal.returns-then-stray-given
returns-then-stray-given c =
    rw c.at.ensures (answer_13 c.args.g c.args.codes.now c.args.starts.now c.requires.codes_len c.first_bad_start-stray.result c.first_bad_start-stray.ensures c.if-stray-given.true)

pub returns-then-repeat-given : goal.returns-then-repeat-given
returns-then-repeat-given c =
    rw c.at-then-repeat-given.ensures (answer_24 c.args.g c.args.codes.now c.args.starts.now c.requires.codes_len c.first_bad_start-stray.result c.first_bad_start-stray.ensures c.if-stray-given.false
    c.first_repeat-repeat.result c.first_repeat-repeat.ensures c.if-repeat-given.true)

pub returns : goal.returns
returns c =
    answer_yes c.args.g c.args.codes.now c.args.starts.now c.requires.codes_len c.first_bad_start-stray.result c.first_bad_start-stray.ensures c.if-stray-given.false
    c.first_repeat-repeat.result c.first_repeat-repeat.ensures c.if-repeat-given.false

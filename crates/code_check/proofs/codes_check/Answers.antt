-- Each no is the answer of its question; after the last yes there is none.
use native.Mathlib.Omega.{arith}
use Rattle.receivers.proofs.Codes.{all_codes}
use Rattle.code_check.proofs.Answers.{answer_11, none_bad, answer_12, answer_yes}
use Rattle.code_check.proofs.codes_check.Goals as goal

pub returns-then-bad-given : goal.returns-then-bad-given
returns-then-bad-given c =
    rw c.at.ensures (answer_11 c.args.g c.args.codes.now c.requires.codes_len c.first_bad_code-bad.result c.first_bad_code-bad.ensures c.if-bad-given.true)

pub invariant_of-sheet : goal.invariant_of-sheet
invariant_of-sheet c =
    let good = none_bad c.args.g c.args.codes.now c.requires.codes_len c.first_bad_code-bad.result c.first_bad_code-bad.ensures c.if-bad-given.false in
    let f = c.requires.fits.cells in
    record {
      size_bound = omega arith;
      rows_bound = c.requires.fits.rows_low;
      codes_len = c.requires.codes_len;
      all_codes = all_codes c.args.g c.args.codes.now c.requires.codes_len good;
    }

pub returns-then-endless-given : goal.returns-then-endless-given
returns-then-endless-given c =
    rw c.at-then-endless-given.ensures (answer_12 c.args.g c.args.codes.now c.requires.codes_len
    (none_bad c.args.g c.args.codes.now c.requires.codes_len c.first_bad_code-bad.result c.first_bad_code-bad.ensures c.if-bad-given.false) c.first_endless-endless.result c.first_endless-endless.ensures
    c.if-endless-given.true)

pub returns : goal.returns
returns c =
    answer_yes c.args.g c.args.codes.now c.requires.codes_len
    (none_bad c.args.g c.args.codes.now c.requires.codes_len c.first_bad_code-bad.result c.first_bad_code-bad.ensures c.if-bad-given.false) c.first_endless-endless.result c.first_endless-endless.ensures
    c.if-endless-given.false

-- `text_checks::feeds_end_lines`: the byte at hand is wrong at its place, or none is.
use Rattle.std.proofs.Common.{sym, arith}
use Rattle.text_checks.proofs.Bytes.{all_right, wrong_here}
use Rattle.text_checks.proofs.feeds_end_lines.Goals as goal

pub returns-then-byte-ends_line : goal.returns-then-byte-ends_line
returns-then-byte-ends_line c =
    sym (wrong_here _ _ _ _ _ _ c.loop-at-test.true c.byte-byte.ensures.value c.loop-at.invariant.0 c.ends_line.ensures
    c.if-byte-ends_line.true)

pub returns : goal.returns
returns c =
    let h = c.loop-at-test.false in
    sym (all_right _ _ (λ k m. c.loop-at.invariant.1 k (omega arith)))

-- `text_checks::first_bad_byte`: the byte at hand is the first that fails the test, or none does.
use Rattle.std.proofs.Common.{sym, ◌∙◌, arith}
use Rattle.text_checks.proofs.Bytes.{bad_byte, no_bad_byte}
use Rattle.text_checks.proofs.first_bad_byte.Goals as goal

pub returns-then-not-is_text_byte : goal.returns-then-not-is_text_byte
returns-then-not-is_text_byte c =
    let h = c.loop-at-test.true in
    let bad = sym c.is_text_byte.ensures ∙ c.if-not-is_text_byte.true in
    (bad_byte _ _ h c.loop-at.invariant.1 (rw (c.byte-byte.ensures.value, c.loop-at.invariant.0) at bad), omega arith)

pub returns : goal.returns
returns c =
    let h = c.loop-at-test.false in
    (no_bad_byte _ (λ k m. c.loop-at.invariant.1 k (omega arith)), omega arith)

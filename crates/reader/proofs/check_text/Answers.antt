-- `reader::check_text`: each return is a case of `text_check`.
use mathlib.Core.Path.{sym, ◌∙◌}
use native.Mathlib.Omega.{arith}
use Rattle.reader.proofs.Gate.{too_long, bad_byte, shaped, not_shaped}
use Rattle.reader.proofs.check_text.Goals as goal

pub returns-then-text-gt11529 : goal.returns-then-text-gt11529
returns-then-text-gt11529 c = rw c.into.ensures (sym (too_long _ c.if-text-gt11529.true))

pub returns-then-place-text : goal.returns-then-place-text
returns-then-place-text c =
    rw c.at.ensures (sym (bad_byte _ c.if-text-gt11529.false c.first_bad_byte-place.ensures.0 c.if-place-text.true))

pub returns-then-not-is_shaped : goal.returns-then-not-is_shaped
returns-then-not-is_shaped c =
    let bad = c.first_bad_byte-place.ensures in
    rw c.into-then-not-is_shaped.ensures (sym (not_shaped _ c.if-text-gt11529.false bad.0 (omega arith)
    (sym c.is_shaped.ensures ∙ c.if-not-is_shaped.true)))

pub returns : goal.returns
returns c =
    let bad = c.first_bad_byte-place.ensures in
    sym (shaped _ c.if-text-gt11529.false bad.0 (omega arith)
    (sym c.is_shaped.ensures ∙ c.if-not-is_shaped.false))

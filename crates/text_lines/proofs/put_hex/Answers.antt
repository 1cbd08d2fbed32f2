-- `text_lines::put_hex`: what is stored, with the digits that are left stored too, is the whole number.
use Rattle.std.proofs.Common.{◌∙◌}
use Rattle.text_lines.proofs.Hex.{digit_stored, digits_stored}
use Rattle.text_lines.proofs.put_hex.Goals as goal

pub loop-left-preserved : goal.loop-left-preserved
loop-left-preserved c =
    digit_stored c.loop-left.left c.loop-left.rest _ _ _ c.loop-left-test.true c.upper_digit.ensures ∙ c.loop-left.invariant

pub returns : goal.returns
returns c = digits_stored c.args.k c.args.v c.loop-left.left c.loop-left.rest _ _ _ c.loop-left-test.false c.loop-left.invariant

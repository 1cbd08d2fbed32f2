-- `text_checks::is_shaped`: each return is a case of `is_shaped`.
use Rattle.std.proofs.Common.{sym, ◌∙◌}
use borrow.Author.Tests.{ne_eqb}
use Rattle.text_checks.proofs.Bytes.{too_short, wrong_length, right_length}
use Rattle.text_checks.proofs.is_shaped.Goals as goal

pub returns-then-text-lt9 : goal.returns-then-text-lt9
returns-then-text-lt9 c = sym (too_short _ c.if-text-lt9.true)

pub returns-then-text-g : goal.returns-then-text-g
returns-then-text-g c =
    c.feeds_end_lines.ensures ∙ sym (right_length _ _ c.header-g.ensures.grid c.if-text-lt9.false c.if-text-g.true)

pub returns-else-text-g : goal.returns-else-text-g
returns-else-text-g c = ne_eqb _ _ c.if-text-g.false ∙ sym (wrong_length _ _ c.header-g.ensures.grid c.if-text-lt9.false c.if-text-g.false)

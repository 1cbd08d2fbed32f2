-- `text_lines::number` of an elevation: its 16 bits.
use Rattle.std.proofs.Common.{of_z, ap, ◌∙◌}
use mir.Syntax.{w16}
use mir.Facts.{to_z-of_z}
use Rattle.grid_laws.proofs.Cells.{word_void, word_top}
use Rattle.text_lines.proofs.Twos.{twos_of}
use Rattle.text_lines.proofs.I16Cell.number.Goals as goal

pub returns : goal.returns
returns c =
    let e = c.args.self in
    record {
      value = c.from.ensures ∙ c.cast_unsigned.ensures ∙ ap (of_z w16) (to_z-of_z {w = w16} c.ranges.self) ∙ twos_of e;
      known = (word_void e c.ranges.self.sfits, word_top e c.ranges.self.sfits);
    }

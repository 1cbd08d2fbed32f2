-- `text_lines::put_hex`: what is stored, with the digits that are left stored too, is the whole number.
use Rattle.std.proofs.Common.{◌≡◌}
use Rattle.std.proofs.lemmas.List.Edits.{sets}
use Rattle.grid.specs.Frames.{hex_text}
use Rattle.text_lines.proofs.put_hex.Given as goal

abbrev pub invariant-loop-left : goal.invariant-loop-left
invariant-loop-left l = sets l.out l.from (hex_text l.left l.rest) ≡ sets l.initial.out l.from (hex_text l.k l.v)

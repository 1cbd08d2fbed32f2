use mathlib.Core.Path.{◌≡◌, subst}
use lib.ListN.{get_or}
use lib.IntN.{pos}
use mir.Syntax.{w16}
use mir.Val.{to_z, of_z}
use mir.Facts.{to_z-of_z}
use borrow.Author.Rules.{sfits_of}
use Rattle.cells.proofs.Keys.{Known, known_read}
use Rattle.cells.proofs.short_key_at.Goals as goal

pub returns : goal.returns
returns c =
    let e = c.args.elevations.now in
    let i = c.args.cell in
    let q : to_z w16 (of_z w16 (get_or e i (pos 0))) ≡ get_or e i (pos 0) = to_z-of_z {w = w16} (sfits_of c.key-arg-1.given) in
    let k = known_read e i c.key.result c.requires (subst (Known c.key.result) q (c.key.ensures.value, (c.key.ensures.upper_bound, c.key.ensures.elevation))) in
    record {
      value = k.0;
      void_bound = k.1.1.0;
    }

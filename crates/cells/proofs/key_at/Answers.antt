use mathlib.Core.Path.{◌≡◌, subst}
use lib.ListN.{get_or}
use lib.IntN.{pos}
use mir.Syntax.{w16}
use mir.Val.{to_z, of_z}
use mir.Facts.{to_z-of_z}
use borrow.Author.Rules.{sfits_of}
use Rattle.cells.proofs.Keys.{Known, known_past, known_read}
use Rattle.cells.proofs.Words.{void_word_lem}
use Rattle.cells.proofs.key_at.Goals as goal

pub returns-then-c-elevations : goal.returns-then-c-elevations
returns-then-c-elevations c =
    let s = c.args in
    let the_all = known_past s.elevations.now s.c c.key.result c.if-c-elevations.true
    (void_word_lem c.void.result c.void.ensures) (c.key.ensures.value, (c.key.ensures.upper_bound, c.key.ensures.elevation)) in
    record {
      value = the_all.0;
      upper_bound = the_all.1.0;
      elevation = the_all.1.1;
    }

pub returns : goal.returns
returns c =
    let s = c.args in
    let e = s.elevations.now in
    let q : to_z w16 (of_z w16 (get_or e s.c (pos 0))) ≡ get_or e s.c (pos 0) = to_z-of_z {w = w16} (sfits_of c.key-arg-1.given) in
    let the_all = known_read e s.c c.key-2.result c.if-c-elevations.false (subst (Known c.key-2.result) q (c.key-2.ensures.value, (c.key-2.ensures.upper_bound, c.key-2.ensures.elevation))) in
    record {
      value = the_all.0;
      upper_bound = the_all.1.0;
      elevation = the_all.1.1;
    }

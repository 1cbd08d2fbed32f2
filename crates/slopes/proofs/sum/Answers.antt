use mathlib.Core.Path.{◌∙◌, ap}
use mathlib.Core.Bool.{not}
use borrow.Author.Tests.{ne_eqb}
use Rattle.slopes.proofs.Drops.{marked_by, marked_is, square_marked}
use Rattle.slopes.proofs.sum.Goals as goal
use Rattle.slopes.proofs.sum.Goals.{then-this-ne0, else-this-ne0}

pub returns : goal.returns
returns g c =
    let s = c.args.t.now.raster.grid in
    let e = c.args.t.now.elevations.now in
    let i = c.args.cell in
    let known = c.keys_of-keys.ensures.known_to in
    let low = c.short_key_at-own.ensures.void_bound in
    elim c.if-this-ne0.branch [
      | then-this-ne0 w ↦ marked_by 1 1 c.short_key_at-own.ensures.value c.keys_of-keys.ensures.value (w.sum-is ∙ w.steepest_square-sum.ensures) c.unless_void.ensures
          ∙ square_marked s e i (c.requires.width_value (ap not (ne_eqb g.row.SQUARE 0 w.if-this-ne0.true))) c.args.t.now.shaped.width_low known low
      | else-this-ne0 w ↦ marked_by _ _ c.short_key_at-own.ensures.value c.keys_of-keys.ensures.value (w.sum-is ∙ w.steepest_oblong-sum.ensures) c.unless_void.ensures
          ∙ marked_is s e i known low
    ]

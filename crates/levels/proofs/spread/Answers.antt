use mathlib.Core.Path.{sym, ◌∙◌}
use native.Mathlib.Omega.{arith}
use Rattle.levels.proofs.Spreading.{reading, x_within}
use Rattle.levels.proofs.spread.Goals.{then-this-ne0, else-this-ne0}
use Rattle.levels.proofs.spread.Goals as goal

pub overflow_add-cell : goal.overflow_add-cell
overflow_add-cell g c = omega (arith, (reading c.args.t.now.elevations_len c.requires.searching c.requires.head_lt_tail).few)

pub offset_bounds-work-half : goal.offset_bounds-work-half
offset_bounds-work-half g c = omega (arith, (reading c.args.t.now.elevations_len c.requires.searching c.requires.head_lt_tail).few)

pub bounds-work-half : goal.bounds-work-half
bounds-work-half g c = omega (arith, (reading c.args.t.now.elevations_len c.requires.searching c.requires.head_lt_tail).few)

pub overflow_add-word : goal.overflow_add-word
overflow_add-word g c = omega (arith, (reading c.args.t.now.elevations_len c.requires.searching c.requires.head_lt_tail).low)

pub spread_around-requires-clause-inner : goal.spread_around-requires-clause-inner
spread_around-requires-clause-inner g c =
    let len = c.args.t.now.elevations_len in
    let read = (reading len c.requires.searching c.requires.head_lt_tail).spreading in
    elim c.if-this-ne0.branch [
      | then-this-ne0 w ↦ λ t. x_within len read (c.requires.sides (sym w.value-is ∙ c.if-is_inner.true))
      | else-this-ne0 w ↦ λ t. w.is_inner.ensures (sym w.value-is ∙ c.if-is_inner.true)
    ]

-- The eight steps one after the other: none of those before p opens.
use mathlib.Core.Path.{sym, ◌∙◌}
use Rattle.grid.specs.Sheet.{size, neighbour}
use Rattle.flood_laws.specs.Packed.{front_of, back_of}
use Rattle.flood_laws.proofs.Steps.{opening_of, opens_on, opens_off}
use Rattle.flood.proofs.opening_around.Goals.{in-Some, in-None}
use Rattle.flood.proofs.opening_around.Goals as goal

pub returns-then-open-clause-opening : goal.returns-then-open-clause-opening
returns-then-open-clause-opening g c = λ e.
    let a = c.args in
    let f = front_of (size a.r.now.grid) a.half a.work.now in
    let b = back_of (size a.r.now.grid) a.half a.work.now in
    let p = c.loop-p.p in
    opening_of a.r.now.grid f b a.c c.requires.reached_are_data c.requires.cell_of p c.loop-p-test.true
    (elim c.match-near.branch [
      | in-Some w ↦
          opens_on a.r.now.grid f b p w.in-Some.ensures.0 w.in-Some.ensures.1 (w.opens-open.ensures.outside_or_reached (sym w.open-is ∙ c.if-open.true))
      | in-None w ↦
          opens_off a.r.now.grid f b p (neighbour a.r.now.grid a.c p) w.in-None.ensures (sym w.is_open-open.ensures ∙ sym w.open-is ∙ c.if-open.true)
    ])

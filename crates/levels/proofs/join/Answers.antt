use mathlib.Core.Path.{sym, ◌∙◌}
use native.Mathlib.Omega.{arith}
use Rattle.levels.proofs.Joined.{joining_has, joining_data, joining_alone, joining_room, joining_next}
use Rattle.levels.proofs.join.Goals as goal

pub returns-then-work-cell-ne0 : goal.returns-then-work-cell-ne0
returns-then-work-cell-ne0 g c =
    joining_has c.args.t.now.elevations_len c.requires.cell_bound c.requires.joining c.if-work-cell-ne0.true

pub has_zero-requires-clause-data : goal.has_zero-requires-clause-data
has_zero-requires-clause-data g c =
    joining_data c.args.t.now.elevations_len c.requires.cell_bound c.requires.joining c.if-work-cell-ne0.false

pub put-requires-clause-len_in_bounds : goal.put-requires-clause-len_in_bounds
put-requires-clause-len_in_bounds g c =
    omega (arith, joining_room c.args.t.now.elevations_len c.requires.cell_bound c.requires.joining c.if-work-cell-ne0.false)

pub returns-then-has_zero : goal.returns-then-has_zero
returns-then-has_zero g c =
    joining_next c.args.t.now.elevations_len c.requires.cell_bound c.requires.joining (sym c.has_zero.ensures ∙ c.if-has_zero.true)
    c.requires.g_bound_2 c.requires.g_in_bounds c.if-work-cell-ne0.false c.put.ensures.value c.put.ensures.work_after

pub returns-else-has_zero : goal.returns-else-has_zero
returns-else-has_zero g c =
    joining_alone c.args.t.now.elevations_len c.requires.cell_bound c.requires.joining (sym c.has_zero.ensures ∙ c.if-has_zero.false)

-- `reader::check_size`: each return is a case of `size_check`.
use mathlib.Core.Path.{sym, ◌∙◌}
use native.Mathlib.Omega.{arith}
use Rattle.reader.proofs.Gate.{cells_small, too_many_cells, bad_rows, bad_cols, no_room, room_enough}
use Rattle.reader.proofs.check_size.Goals as goal

pub overflow_mul-size : goal.overflow_mul-size
overflow_mul-size c = omega (arith, cells_small c.args.g c.requires.0 c.requires.1)

pub returns-then-size-gt2304 : goal.returns-then-size-gt2304
returns-then-size-gt2304 c = rw c.into.ensures (sym (too_many_cells _ _ c.if-size-gt2304.true))

pub returns-then-not-in_range : goal.returns-then-not-in_range
returns-then-not-in_range c =
    rw c.into-then-not-in_range.ensures (sym (bad_rows _ _ c.if-size-gt2304.false (sym c.in_range.ensures ∙ c.if-not-in_range.true)))

pub returns-then-not-in_range-2 : goal.returns-then-not-in_range-2
returns-then-not-in_range-2 c =
    rw c.into-then-not-in_range-2.ensures (sym
    (bad_cols _ _ c.if-size-gt2304.false
    (sym c.in_range.ensures ∙ c.if-not-in_range.false)
    (sym c.in_range-2.ensures ∙ c.if-not-in_range-2.true)))

pub returns-then-room-size : goal.returns-then-room-size
returns-then-room-size c =
    rw c.into-then-room-size.ensures (sym
    (no_room _ _ c.if-size-gt2304.false
    (sym c.in_range.ensures ∙ c.if-not-in_range.false)
    (sym c.in_range-2.ensures ∙ c.if-not-in_range-2.false) c.if-room-size.true))

pub returns : goal.returns
returns c =
    sym
    (room_enough _ _ c.if-size-gt2304.false
    (sym c.in_range.ensures ∙ c.if-not-in_range.false)
    (sym c.in_range-2.ensures ∙ c.if-not-in_range-2.false) c.if-room-size.false)

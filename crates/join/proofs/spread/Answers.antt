-- The queue's cell at head lies in the queue, and nothing beside it is joined yet.
use native.Mathlib.Omega.{arith}
use Prim.Native.Nat.{◌+◌, ◌<◌}
use lib.ListN.{length}
use Rattle.join_laws.proofs.Search.{queue_here, spread_none}
use Rattle.join.proofs.spread.Goals as goal

pub overflow_add-x : goal.overflow_add-x
overflow_add-x c =
    let a = c.args in
    let here : a.half + a.head < length a.work.now = (queue_here a.r.now.grid a.base a.half a.value c.requires.le_value a.work.now c.requires.parts
    a.head a.len c.requires.searching c.requires.head_lt_len).0 in
    omega arith

pub offset_bounds-work-half : goal.offset_bounds-work-half
offset_bounds-work-half c =
    let a = c.args in
    let here : a.half + a.head < length a.work.now = (queue_here a.r.now.grid a.base a.half a.value c.requires.le_value a.work.now c.requires.parts
    a.head a.len c.requires.searching c.requires.head_lt_len).0 in
    omega arith

pub bounds-work-half : goal.bounds-work-half
bounds-work-half c =
    let a = c.args in
    (queue_here a.r.now.grid a.base a.half a.value c.requires.le_value a.work.now c.requires.parts a.head a.len c.requires.searching
    c.requires.head_lt_len).0

pub spread_around-requires-clause-spreading : goal.spread_around-requires-clause-spreading
spread_around-requires-clause-spreading c =
    let a = c.args in
    spread_none a.r.now.grid a.base a.half a.value c.requires.le_value a.work.now c.requires.parts a.head a.len c.requires.searching
    c.requires.head_lt_len

pub spread_around-requires-else-is_inner-clause-spreading : goal.spread_around-requires-else-is_inner-clause-spreading
spread_around-requires-else-is_inner-clause-spreading c =
    let a = c.args in
    spread_none a.r.now.grid a.base a.half a.value c.requires.le_value a.work.now c.requires.parts a.head a.len c.requires.searching
    c.requires.head_lt_len

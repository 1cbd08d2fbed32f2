-- The queue's cell at head lies in the queue, and nothing beside it is settled yet.
use native.Mathlib.Omega.{arith}
use Rattle.flood.proofs.Halves.{first_less, first_here, spread_start}
use Rattle.flood.proofs.spread.Goals as goal

pub overflow_add-x : goal.overflow_add-x
overflow_add-x c =
    let a = c.args in
    omega (arith, first_less a.r.now.grid a.half a.k a.v a.head a.len _ a.work.now c.requires.during)

pub offset_bounds-work-half : goal.offset_bounds-work-half
offset_bounds-work-half c =
    let a = c.args in
    omega (arith, first_less a.r.now.grid a.half a.k a.v a.head a.len _ a.work.now c.requires.during)

pub bounds-work-half : goal.bounds-work-half
bounds-work-half c =
    let a = c.args in
    omega (arith, first_less a.r.now.grid a.half a.k a.v a.head a.len _ a.work.now c.requires.during)

pub nonzero_div-x : goal.nonzero_div-x
nonzero_div-x c =
    let a = c.args in
    (first_here a.r.now.grid a.half a.k a.v a.head a.len _ a.work.now c.requires.during c.args.r.now.size_bound c.requires.head_lt_len).1

pub nonzero_rem-x : goal.nonzero_rem-x
nonzero_rem-x c =
    let a = c.args in
    (first_here a.r.now.grid a.half a.k a.v a.head a.len _ a.work.now c.requires.during c.args.r.now.size_bound c.requires.head_lt_len).1

pub is_inner-requires-clause-row_bound : goal.is_inner-requires-clause-row_bound
is_inner-requires-clause-row_bound c =
    let a = c.args in
    (first_here a.r.now.grid a.half a.k a.v a.head a.len _ a.work.now c.requires.during c.args.r.now.size_bound c.requires.head_lt_len).2

pub is_inner-requires-clause-col_bound : goal.is_inner-requires-clause-col_bound
is_inner-requires-clause-col_bound c =
    let a = c.args in
    (first_here a.r.now.grid a.half a.k a.v a.head a.len _ a.work.now c.requires.during c.args.r.now.size_bound c.requires.head_lt_len).3

pub spread_around-requires-clause-spread : goal.spread_around-requires-clause-spread
spread_around-requires-clause-spread c =
    let a = c.args in
    spread_start a.r.now.grid a.half a.k a.v a.head a.len _ a.work.now c.requires.during c.requires.head_lt_len

pub spread_around-requires-else-is_inner-clause-spread : goal.spread_around-requires-else-is_inner-clause-spread
spread_around-requires-else-is_inner-clause-spread c =
    let a = c.args in
    spread_start a.r.now.grid a.half a.k a.v a.head a.len _ a.work.now c.requires.during c.requires.head_lt_len

pub spread_around-requires-else-is_inner-clause-x_bound : goal.spread_around-requires-else-is_inner-clause-x_bound
spread_around-requires-else-is_inner-clause-x_bound c =
    let a = c.args in
    (first_here a.r.now.grid a.half a.k a.v a.head a.len _ a.work.now c.requires.during c.args.r.now.size_bound c.requires.head_lt_len).0

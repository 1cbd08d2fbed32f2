-- A void, a reached cell and one that does not open are passed over; any other is reached, and the queue emptied.
use native.Mathlib.Omega.{arith}
use Rattle.flood.proofs.Halves.{cell_on, visit_cell, visit_void, visit_reached, visit_closed, visit_room, visit_first, visit_end}
use Rattle.flood.proofs.visit.Goals as goal

pub bounds-work-c : goal.bounds-work-c
bounds-work-c c =
    let a = c.args in
    omega (
      arith,
      cell_on a.r.now.grid a.half a.k a.len a.work.now c.requires.g_bound_2 c.requires.g_in_bounds c.requires.k_bound
          c.requires.sorted,
    )

pub returns-then-v-eq0-clause-between_2 : goal.returns-then-v-eq0-clause-between_2
returns-then-v-eq0-clause-between_2 c =
    let a = c.args in
    visit_void a.r.now.grid a.half a.k a.len a.work.now c.requires.g_bound_2 c.requires.g_in_bounds c.requires.k_bound
    c.requires.sorted c.requires.between c.if-v-eq0.true

pub returns-then-v-ge65536-clause-between_2 : goal.returns-then-v-ge65536-clause-between_2
returns-then-v-ge65536-clause-between_2 c =
    let a = c.args in
    visit_reached a.r.now.grid a.half a.k a.len a.work.now c.requires.g_bound_2 c.requires.g_in_bounds c.requires.k_bound
    c.requires.sorted c.requires.between c.if-v-ge65536.true

pub is_opening-requires-clause-cell_of : goal.is_opening-requires-clause-cell_of
is_opening-requires-clause-cell_of c =
    let a = c.args in
    visit_cell a.r.now.grid a.half a.k a.len a.work.now c.requires.g_bound_2 c.requires.g_in_bounds c.requires.k_bound
    c.requires.sorted c.requires.between c.if-v-eq0.false c.if-v-ge65536.false

pub returns-then-not-is_opening-clause-between_2 : goal.returns-then-not-is_opening-clause-between_2
returns-then-not-is_opening-clause-between_2 c =
    let a = c.args in
    visit_closed a.r.now.grid a.half a.k a.len a.work.now c.requires.g_bound_2 c.requires.g_in_bounds c.requires.k_bound
    c.requires.sorted c.requires.between (c.is_opening.ensures.fact c.if-not-is_opening.true)

pub reach-more-requires-clause-len_lt_n : goal.reach-more-requires-clause-len_lt_n
reach-more-requires-clause-len_lt_n c =
    let a = c.args in
    visit_room a.r.now.grid a.half a.k a.len a.work.now c.requires.g_bound_2 c.requires.g_in_bounds c.requires.k_bound
    c.requires.sorted c.requires.between c.if-v-eq0.false c.if-v-ge65536.false

pub drain-requires-clause-during : goal.drain-requires-clause-during
drain-requires-clause-during c =
    let a = c.args in
    visit_first a.r.now.grid a.half a.k a.len a.work.now c.requires.g_bound_2 c.requires.g_in_bounds c.requires.k_bound
    c.requires.sorted c.requires.between c.if-v-eq0.false c.if-v-ge65536.false (c.is_opening.ensures.opening c.if-not-is_opening.false)
    c.reach-more.new.work c.reach-more.ensures.work_after c.reach-more.ensures.value

pub returns : goal.returns
returns c =
    let a = c.args in
    let the_all = visit_end a.r.now.grid a.half a.k a.len a.work.now c.requires.g_bound_2 c.requires.g_in_bounds c.requires.k_bound
    c.requires.sorted c.requires.between c.if-v-eq0.false c.if-v-ge65536.false (c.is_opening.ensures.opening c.if-not-is_opening.false)
    c.reach-more.new.work c.reach-more.ensures.work_after _ _ _
    c.drain.ensures.front_unchanged c.drain.ensures.during_2 in
    record {
      front_unchanged = the_all.0;
      between_2 = the_all.1;
    }

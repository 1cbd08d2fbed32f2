-- No bad entry, or the first one, by what its cell holds.
use native.Mathlib.Omega.{arith}
use lib.ListN.{get_or}
use Rattle.cells.proofs.Keys.{zero_no_data, data_by_key}
use Rattle.culvert_entries.proofs.Asked.{none_refused, refused_15, refused_16}
use Rattle.culvert_entries.proofs.check.Goals as goal

pub returns-then-bad-cells : goal.returns-then-bad-cells
returns-then-bad-cells c =
    let a = c.args in
    none_refused a.elevations.now a.cells.now a.levels.now c.first_bad_entry-bad.result c.first_bad_entry-bad.ensures
    c.if-bad-cells.true

pub overflow_cast-cell : goal.overflow_cast-cell
overflow_cast-cell c = omega (arith, c.shared_slice_known-2-1.given c.first_bad_entry-bad.result)

pub returns-then-key_at-eq0 : goal.returns-then-key_at-eq0
returns-then-key_at-eq0 c =
    let a = c.args in
    rw c.at.ensures (refused_15 a.elevations.now a.cells.now a.levels.now c.first_bad_entry-bad.result c.first_bad_entry-bad.ensures
    c.if-bad-cells.false
    (zero_no_data a.elevations.now (get_or a.cells.now c.first_bad_entry-bad.result 0) c.key_at.result c.key_at.ensures.value
    c.key_at.ensures.elevation.0 c.if-key_at-eq0.true))

pub returns : goal.returns
returns c =
    let a = c.args in
    rw c.at-2.ensures (refused_16 a.elevations.now a.cells.now a.levels.now c.first_bad_entry-bad.result c.first_bad_entry-bad.ensures
    c.if-bad-cells.false
    (data_by_key a.elevations.now (get_or a.cells.now c.first_bad_entry-bad.result 0) c.key_at.result c.key_at.ensures.value c.if-key_at-eq0.false))

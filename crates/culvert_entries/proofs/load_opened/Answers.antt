-- The keys of the elevations, and then the first k entries opened.
use native.Mathlib.Omega.{arith}
use Rattle.culvert_laws.proofs.Opened.{all_good}
use Rattle.culvert_entries.proofs.Loaded.{opened_none, entry_on, opened_more, opened_all}
use Rattle.culvert_entries.proofs.load_opened.Goals as goal

pub loop-k-init : goal.loop-k-init
loop-k-init c =
    let a = c.args in
    opened_none a.elevations.now a.cells.now a.levels.now c.load.new.work
    (let q = c.load.auto.work in omega (arith, c.requires.elevations_in_bounds)) c.load.ensures.by_index c.load.ensures.sixteen_bits

pub bounds-work-cell : goal.bounds-work-cell
bounds-work-cell c =
    let a = c.args in
    entry_on a.elevations.now a.cells.now a.levels.now (all_good a.elevations.now a.cells.now a.levels.now c.requires.levels_value)
    c.loop-k.k c.loop-k.work c.loop-k.invariant (omega arith)

pub open_cell-requires : goal.open_cell-requires
open_cell-requires c =
    let a = c.args in
    entry_on a.elevations.now a.cells.now a.levels.now (all_good a.elevations.now a.cells.now a.levels.now c.requires.levels_value)
    c.loop-k.k c.loop-k.work c.loop-k.invariant (omega arith)

pub loop-k-preserved : goal.loop-k-preserved
loop-k-preserved c =
    let a = c.args in
    opened_more a.elevations.now a.cells.now a.levels.now
    (all_good a.elevations.now a.cells.now a.levels.now c.requires.levels_value) c.loop-k.k c.loop-k.work c.loop-k.invariant
    c.key_at-level.result c.min-key.result c.open_cell.new.work (omega arith) (omega (arith, c.requires.levels_len))
    (c.key_at-level.ensures.value, (c.key_at-level.ensures.upper_bound, c.key_at-level.ensures.elevation)) c.min-key.ensures
    c.open_cell.auto.work c.open_cell.ensures

pub returns : goal.returns
returns c =
    let a = c.args in
    opened_all a.elevations.now a.cells.now a.levels.now c.loop-k.k c.loop-k.work (omega arith) c.loop-k.invariant

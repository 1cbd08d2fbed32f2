-- The entries are counted, and written after a yes.
use mathlib.Core.Path.{refl}
use native.Mathlib.Omega.{arith}
use Rattle.grid.specs.PourPoints.{pour_points}
use Rattle.pour_laws.proofs.Columns.{first_batch, settled_no, settled_yes}
use Rattle.pour_laws.proofs.Few.{few_entries}
use Rattle.pour_points.proofs.settle_many.Goals as goal

pub count_on-n-requires : goal.count_on-n-requires
count_on-n-requires c =
    let s = c.args.sheets.now in
    first_batch s.g s.elevations.now s.labels.now s.elevations_len c.requires.batch c.args.batch.now.room.within

pub overflow_cast-count : goal.overflow_cast-count
overflow_cast-count c =
    let s = c.args.sheets.now in
    let f = few_entries s.g s.elevations.now s.labels.now in
    let h = s.scanned.small in
    omega arith

pub returns-then-smaller-n : goal.returns-then-smaller-n
returns-then-smaller-n c =
    let s = c.args.sheets.now in
    rw c.at.ensures (settled_no (pour_points s.g s.elevations.now s.labels.now) refl c.count_on-n.ensures c.if-smaller-n.true)

pub returns : goal.returns
returns c =
    let s = c.args.sheets.now in
    settled_yes (pour_points s.g s.elevations.now s.labels.now) refl c.count_on-n.ensures c.if-smaller-n.false
    c.write_all.ensures

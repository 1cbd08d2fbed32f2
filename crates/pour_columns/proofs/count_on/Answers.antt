-- The first n entries are counted, up to the last pair of the batch.
use mathlib.Core.Path.{refl}
use native.Mathlib.Omega.{arith}
use Rattle.pour_laws.proofs.Columns.{between_more, scan_within}
use Rattle.pour_laws.proofs.Few.{few_entries}
use Rattle.pour_columns.proofs.count_on.Goals as goal

pub overflow_add-n : goal.overflow_add-n
overflow_add-n c =
    let s = c.args.sheets.now in
    let w = scan_within s.g s.elevations.now s.labels.now s.elevations_len c.loop-batch.invariant c.loop-batch-test.true c.scan.ensures in
    let f = few_entries s.g s.elevations.now s.labels.now in
    let h = s.scanned.small in
    omega arith

pub loop-batch-smaller : goal.loop-batch-smaller
loop-batch-smaller c =
    let s = c.args.sheets.now in
    let w = scan_within s.g s.elevations.now s.labels.now s.elevations_len c.loop-batch.invariant c.loop-batch-test.true c.scan.ensures in
    omega (arith, c.loop-batch-test.true)

pub loop-batch-preserved : goal.loop-batch-preserved
loop-batch-preserved c =
    let s = c.args.sheets.now in
    between_more s.g s.elevations.now s.labels.now s.elevations_len c.loop-batch.invariant c.loop-batch-test.true c.scan.ensures
    c.scan.new.self.room.within refl

pub returns : goal.returns
returns c = c.loop-batch.invariant.last (let f = c.loop-batch.invariant.full in let t = c.loop-batch-test.false in omega arith)

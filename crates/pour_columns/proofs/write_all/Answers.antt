-- The first n entries stand in the columns, and the rest is as at entry.
use mathlib.Core.Path.{◌≡◌, refl, subst}
use Prim.Native.Nat.{ℕ, ◌+◌}
use native.Mathlib.Omega.{arith}
use lib.ListN.{get_or}
use Rattle.grid.specs.PourPoints.{pour_points}
use Rattle.pour_laws.specs.Columns.{Between, ColumnsTo}
use Rattle.pour_laws.proofs.Columns.{between_none, between_more, scan_within, columns_none, columns_more, columns_whole}
use Rattle.pour_columns.proofs.write_all.Goals as goal

pub scans-init : goal.scans-init
scans-init c =
    let s = c.args.sheets.now in
    (between_none s.g s.elevations.now s.labels.now s.elevations_len 16384 refl, columns_none)

pub put_entries-requires-clause-in_bounds : goal.put_entries-requires-clause-in_bounds
put_entries-requires-clause-in_bounds c =
    let s = c.args.sheets.now in
    let w = scan_within s.g s.elevations.now s.labels.now s.elevations_len c.scans.invariant.0 refl c.scan.ensures in
    omega arith

pub returns-then-batch-lt-CAPACITY : goal.returns-then-batch-lt-CAPACITY
returns-then-batch-lt-CAPACITY c =
    let s = c.args.sheets.now in
    let b = between_more s.g s.elevations.now s.labels.now s.elevations_len c.scans.invariant.0 refl c.scan.ensures
    c.scan.new.self.room.within refl in
    columns_whole (pour_points s.g s.elevations.now s.labels.now) (b.last c.if-batch-lt-CAPACITY.true) c.requires.in_bounds
    c.requires.one_length
    (columns_more s.g s.elevations.now s.labels.now s.elevations_len c.scans.invariant.0 refl c.scan.ensures c.put_entries.ensures
    c.scans.invariant.1)

pub scans-smaller : goal.scans-smaller
scans-smaller c =
    let s = c.args.sheets.now in
    let w = scan_within s.g s.elevations.now s.labels.now s.elevations_len c.scans.invariant.0 refl c.scan.ensures in
    omega (arith, c.if-batch-lt-CAPACITY.false)

pub scans-preserved : goal.scans-preserved
scans-preserved c =
    let s = c.args.sheets.now in
    let a = c.args in
    let n = c.put_entries.new in
    let k = c.scan.new.self.count in
    let full = c.if-batch-lt-CAPACITY.false in
    let room = c.scan.new.self.room.within in
    let e : k ≡ 16384 = omega arith in (
      subst (λ (j : ℕ). Between s.g s.elevations.now s.labels.now (get_or c.scan.new.self.pairs 16383 0) (c.scans.n + j) j) e
          (between_more s.g s.elevations.now s.labels.now s.elevations_len c.scans.invariant.0 refl c.scan.ensures room refl),
      subst
          (λ (j : ℕ). ColumnsTo (pour_points s.g s.elevations.now s.labels.now) (c.scans.n + j) a.smaller.now n.smaller a.larger.now n.larger a.elevation.now n.elevation a.cell.now n.cell)
          e
          (columns_more s.g s.elevations.now s.labels.now s.elevations_len c.scans.invariant.0 refl c.scan.ensures
          c.put_entries.ensures c.scans.invariant.1),
    )

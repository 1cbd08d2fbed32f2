-- A batch that is not full has all entries.
use mathlib.Core.Path.{refl}
use Rattle.grid.specs.PourPoints.{pour_points}
use Rattle.pour_laws.proofs.Columns.{few_are, few_written, settled_no, settled_yes}
use Rattle.pour_points.proofs.settle_few.Goals as goal

pub returns-then-smaller-k : goal.returns-then-smaller-k
returns-then-smaller-k c =
    let s = c.args.sheets.now in
    rw c.at.ensures (settled_no (pour_points s.g s.elevations.now s.labels.now) refl
    (few_are s.g s.elevations.now s.labels.now s.elevations_len c.requires.batch c.requires.not_full) c.if-smaller-k.true)

pub returns : goal.returns
returns c =
    let s = c.args.sheets.now in
    let room = c.if-smaller-k.false in
    settled_yes (pour_points s.g s.elevations.now s.labels.now) refl
    (few_are s.g s.elevations.now s.labels.now s.elevations_len c.requires.batch c.requires.not_full) room
    (few_written s.g s.elevations.now s.labels.now s.elevations_len c.requires.batch c.requires.not_full room c.requires.one_length
    c.put_entries.ensures)

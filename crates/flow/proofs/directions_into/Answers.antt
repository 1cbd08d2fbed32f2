use Rattle.flow.proofs.Seeds.{none_lacks, kept_codes, written_codes}
use Rattle.flow.proofs.directions_into.Goals as goal

-- the raster is that of the sheet
pub returns-then-first-s : goal.returns-then-first-s
returns-then-first-s c =
    let the_all = kept_codes c.args.s.now.grid c.args.s.now.elevations.now c.args.s.now.elevations_len c.levels.new.work (rw c.new.ensures at c.levels.ensures)
    c.args.codes.now c.first_without-first.ensures c.if-first-s.true in
    record {
      value = the_all.0;
      codes_after = the_all.1;
    }

pub write_codes-requires-clause-none_lacks : goal.write_codes-requires-clause-none_lacks
write_codes-requires-clause-none_lacks c =
    rw c.new.ensures (none_lacks c.args.s.now.grid c.args.s.now.elevations.now c.args.s.now.elevations_len c.levels.new.work (rw c.new.ensures at c.levels.ensures) c.first_without-first.ensures
    c.if-first-s.false)

pub returns : goal.returns
returns c =
    let the_all = written_codes c.args.s.now.grid c.args.s.now.elevations.now c.args.s.now.elevations_len c.levels.new.work (rw c.new.ensures at c.levels.ensures)
    c.args.codes.now c.write_codes.new.codes c.first_without-first.ensures c.if-first-s.false (rw c.new.ensures at c.write_codes.ensures) in
    record {
      value = the_all.0;
      codes_after = the_all.1;
    }

-- `frames::write_elevations`: the header and the sheet, one run after the other.
use Rattle.text_lines.proofs.Twos.{all_sixteen}
use Rattle.frames.proofs.Outputs.{elevations_put}
use Rattle.frames.proofs.write_elevations.Goals as goal

pub returns : goal.returns
returns c =
    let rows = c.sheet.ensures in
    record {
      put = elevations_put c.args.g c.args.elevations.now c.header-rows.ensures rows.put;
      sixteen_bits = all_sixteen c.args.elevations.now rows.known;
    }

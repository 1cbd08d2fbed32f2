-- `frames::write_results`: the filled sheet with its header and the three other sheets, one run after the other.
use Rattle.frames.proofs.Outputs.{results_printed}
use Rattle.frames.proofs.write_results.Goals as goal

pub returns : goal.returns
returns c =
    let filled = c.write_elevations-after_filled.ensures.put in
    let codes = c.sheet-after_codes.ensures.put in
    let counts = c.sheet-after_counts.ensures.put in
    let labels = c.sheet.ensures.put in
    results_printed c.args.g _ _ _ _ c.requires.room filled codes counts labels

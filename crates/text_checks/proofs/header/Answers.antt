-- `text_checks::header`: the second number is read where the first ends.
use Rattle.std.proofs.Common.{ap, ◌∙◌}
use Rattle.grid.specs.Frames.{number4}
use Rattle.text_checks.proofs.Bytes.{header_grid}
use Rattle.text_checks.proofs.header.Goals as goal

pub returns : goal.returns
returns c =
    let rows = c.number-rows.ensures in
    let cols = c.number-cols.ensures in
    record {
      grid = header_grid _ rows.value (cols.value ∙ ap (number4 _) rows.next);
      few_rows = rows.small;
      few_cols = cols.small;
    }

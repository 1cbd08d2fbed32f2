-- `text_checks::feeds_end_lines`: every byte before the place is right, and there the cursor stands.
use Rattle.std.specs.Prelude.{◌≡◌}
use Rattle.text_checks.proofs.Bytes.{RightTo}
use Rattle.text_checks.proofs.feeds_end_lines.Given as goal

abbrev pub invariant-loop-at : goal.invariant-loop-at
invariant-loop-at l = (l.here.at ≡ l.at) × RightTo l.cols l.text l.at

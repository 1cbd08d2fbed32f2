-- `text_checks::first_bad_byte`: every byte before the place is a digit or a line feed, and there the cursor stands.
use Rattle.std.specs.Prelude.{◌≡◌}
use Rattle.text_checks.proofs.Bytes.{FineTo}
use Rattle.text_checks.proofs.first_bad_byte.Given as goal

abbrev pub invariant-loop-at : goal.invariant-loop-at
invariant-loop-at l = (l.next.at ≡ l.at) × FineTo l.text l.at

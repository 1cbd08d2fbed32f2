-- Position by position the codes are taken out; 0 is none.
use mathlib.Core.Path.{◌≡◌}
use Rattle.receivers.proofs.Codes.{bad_but}
use Rattle.receivers.proofs.bad_table.Given as goal

abbrev pub invariant-loop-p : goal.invariant-loop-p
invariant-loop-p l = l.table ≡ bad_but l.p

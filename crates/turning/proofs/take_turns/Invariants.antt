-- `_taken` turns are taken, and every trace on its way stands on a cell with a code.
use mathlib.Core.Path.{◌≡◌}
use Rattle.grid.specs.Crews.{turns}
use Rattle.crew_laws.specs.Standing.{Standing}
use Rattle.turning.proofs.take_turns.Given as goal

abbrev pub invariant-loop-taken : goal.invariant-loop-taken
invariant-loop-taken l = (l.crews ≡ turns l.g l.codes l._taken l.initial.crews) × Standing l.codes l.crews

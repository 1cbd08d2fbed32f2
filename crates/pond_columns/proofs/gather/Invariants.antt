-- The first c cells have their numbers and are gathered into the columns.
use Rattle.grid.specs.Fill.{filled}
use Rattle.grid.specs.Ponds.{ponds as ponds', pond_count}
use Rattle.pond_laws.specs.Gathered.{Gathered}
use Rattle.pond_columns.proofs.Gathering.{WrittenTo}
use Rattle.pond_columns.proofs.gather.Given as goal

abbrev pub invariant-loop-c : goal.invariant-loop-c
invariant-loop-c l =
    WrittenTo l.g l.elevations l.ponds l.c
    × Gathered l.elevations (filled l.g l.elevations) (ponds' l.g l.elevations) (pond_count l.g l.elevations) l.c l.initial.level l.level l.initial.cells l.cells l.initial.volume l.volume

-- The keys of the elevations, and then the first k entries opened.
use Rattle.culvert_entries.proofs.Loaded.{OpenedIn}
use Rattle.culvert_entries.proofs.load_opened.Given as goal

abbrev pub invariant-loop-k : goal.invariant-loop-k
invariant-loop-k l = OpenedIn l.elevations l.cells l.levels l.k l.work

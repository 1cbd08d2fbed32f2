-- A walk along the list: no entry before the place k is bad.
use Rattle.culvert_entries.proofs.Asked.{GoodTo}
use Rattle.culvert_entries.proofs.first_bad_entry.Given as goal

abbrev pub invariant-loop-k : goal.invariant-loop-k
invariant-loop-k l = GoodTo l.elevations l.cells l.levels l.k

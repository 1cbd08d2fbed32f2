use Rattle.levels.proofs.Joined.{joining_none}
use Rattle.levels.proofs.first_round.Goals as goal

pub run-requires-clause-joining : goal.run-requires-clause-joining
run-requires-clause-joining c = joining_none _ _ _ _ c.requires.seeded

pub round_rows-requires-clause-joining : goal.round_rows-requires-clause-joining
round_rows-requires-clause-joining c = joining_none _ _ _ _ c.requires.seeded

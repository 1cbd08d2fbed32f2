-- From one turn to lists of operations:
--   Turns        what a turn changes: the waiting crew's two places, the next crew, the total
--   Nearer       each turn brings a trace one turn nearer to its end
--   Changes      what a hand-in and a collection change; what an accepted hand-in says
--   Along        a trace that is not yet collected, along any list of operations
--   Begin        at its hand-in a trace has its whole route before it
--   Finish       finished in time, at the very turn too
--   Keeps        no turn leads a trace to a cell without a code; a run cut in two
--   Collect      what is collected is the outlet of the cell handed in last; no run gets 23
--   Rounds       turns go round, the total
--   Calls        zeros begin; the calls are the operations; a refused one does nothing
pub mod Turns
pub mod Nearer
pub mod Changes
pub mod Along
pub mod Begin
pub mod Finish
pub mod Keeps
pub mod Collect
pub mod Rounds
pub mod Calls

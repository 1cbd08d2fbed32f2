-- The laws of counts, by topic:
--   Sums      sums over the numbers below n
--   Count     the count is the sum over what flows into a cell
--   Words     a word of the pass
--   Donors    how the pass begins
--   Passing   what it keeps
--   Ended     how it ends: the counts, or a route that does not end
--   Sheet     the marks of a sheet of codes
pub mod Sums
pub mod Count
pub mod Words
pub mod Donors
pub mod Passing
pub mod Ended
pub mod Sheet

-- Laws of joined cells, by topic:
--   Ways      a way needs no cell twice
--   Joined    what is joined by passes is what has a way
--   Chains    a way is a chain, as a list; which voids are outside
--   Search    what the steps of a search make of its state
pub mod Ways
pub mod Joined
pub mod Chains
pub mod Search

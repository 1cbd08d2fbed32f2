-- Joined cells, by topic:
--   Ways     ways by steps, and those through a set
--   Search   marks, queue, and the state of a search
pub mod Ways
pub mod Search

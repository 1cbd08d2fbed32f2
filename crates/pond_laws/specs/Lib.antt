-- Ponds on their way, by topic:
--   Numbered   the marks while ponds are numbered
--   Gathered   the columns while they are gathered
pub mod Numbered
pub mod Gathered

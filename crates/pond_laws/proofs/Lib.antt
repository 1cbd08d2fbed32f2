-- Laws of the ponds, by topic:
--   Same      being in one pond is an equivalence; a pond has one lowest cell
--   Numbered  the marks of a scan that numbers the ponds
--   Depth     wet cells and depths by keys
--   Level     the cells of a number have one filled elevation, and there are some for each number
--   Gathered  the columns, gathered cell by cell
--   Total     the volumes add up, and do not wrap
--   Columns   the columns at the end are those of the promise
pub mod Same
pub mod Numbered
pub mod Depth
pub mod Level
pub mod Gathered
pub mod Total
pub mod Columns

-- The laws of the flood.
--   Marks    setting an unset mark adds one to their number
--   Reach    what reaching a cell makes of the state, with no geometry
--   Steps    the steps of the program, over the two lists
--   Packed   the two lists of the work buffer, and what reaching a cell makes of them
pub mod Marks
pub mod Reach
pub mod Steps
pub mod Packed

-- What the flood's contracts speak of.
--   Flood    the state, with no geometry and over the two lists
--   Packed   the two lists, read from the work buffer
pub mod Flood
pub mod Packed

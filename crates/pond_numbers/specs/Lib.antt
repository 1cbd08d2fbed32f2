-- What the contracts speak of.
--   State   the work buffer while ponds are numbered
pub mod State

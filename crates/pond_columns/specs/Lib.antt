-- What the contracts speak of.
--   State   the columns while cells are added to them
pub mod State

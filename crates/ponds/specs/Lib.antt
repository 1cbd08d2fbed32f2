-- What the contracts speak of.
--   State   question 14 and the results
pub mod State

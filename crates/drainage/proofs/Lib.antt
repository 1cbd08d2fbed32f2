-- The promise of the one call.
--   Four          the four results of an input sheet, with demand 3
--   Promise       the promise, from the answer to questions 5 to 9 and the four lists
--   Routed        counts and labels from one list of receivers
--   Steps         what each step leaves for the next
pub mod Four
pub mod Promise
pub mod Routed
pub mod Steps

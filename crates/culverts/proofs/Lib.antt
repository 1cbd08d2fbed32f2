-- Loaded    what is spelled when the opened sheet is loaded
-- Promise   from the answers to the promise of the call
pub mod Loaded
pub mod Promise

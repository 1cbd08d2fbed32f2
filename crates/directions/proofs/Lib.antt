-- Reached  where every data cell has a level, none is stranded
-- Promise  from the answers to the questions to the promise of the call
pub mod Reached
pub mod Promise

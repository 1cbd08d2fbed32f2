-- How questions compose; 5 to 9 for each call, and the half that a yes to 9 leaves to lend on; 11 and 12 about codes, and all of them for
-- the calls from codes to counts and labels.
pub mod Gate
pub mod Asked
pub mod Room
pub mod Questions
pub mod FromCodes

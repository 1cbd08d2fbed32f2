-- What stands between question 11 and the result.
pub mod Into

-- A no is a no by its number.
pub mod Answers

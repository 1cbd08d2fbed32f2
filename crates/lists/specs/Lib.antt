-- What the tests of this crate answer.
pub mod Beside

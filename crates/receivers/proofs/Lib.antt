-- The lemmas of this crate.
pub mod Codes
pub mod Written

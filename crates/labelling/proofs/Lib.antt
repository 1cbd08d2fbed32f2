-- The lemmas of this crate.
pub mod Labelled
pub mod Sheet

-- What the functions of this crate leave.
pub mod Labelled

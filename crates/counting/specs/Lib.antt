-- What the functions of this crate leave.
pub mod Copied

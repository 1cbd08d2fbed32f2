-- What the functions of this crate keep and leave.
pub mod Tail

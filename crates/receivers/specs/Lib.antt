-- What the functions of this crate keep while they write.
pub mod Written
pub mod Yes

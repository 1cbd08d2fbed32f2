-- The lemmas of this crate: what is found on routes cut at starts, and the answers to 11, 12, 13 and 24.
pub mod Cutting
pub mod Asking

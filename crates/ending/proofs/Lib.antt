-- The lemmas of this crate.
pub mod Promise

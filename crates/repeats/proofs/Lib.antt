-- The lemmas of this crate: what a pass over the labels asks for and leaves.
pub mod Groups

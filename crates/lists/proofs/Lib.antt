-- The lemmas of this crate: neighbours by rows and columns; a place of a list; from the answers to the promise.
pub mod Beside
pub mod Stray
pub mod Promise

-- The laws of Table 6.
pub mod Batch
pub mod Order
pub mod Whole
pub mod Agree
pub mod Neighbours
pub mod Lines
pub mod Candidate
pub mod Admit
pub mod Arrays
pub mod Steps
pub mod Columns
pub mod Few

-- Starts by marks.
pub mod Marked

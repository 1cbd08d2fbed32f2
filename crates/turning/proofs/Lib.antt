-- A cell's code, and one turn after another.
pub mod Stepping

pub mod Words
pub mod Batch
pub mod Lines
pub mod Columns

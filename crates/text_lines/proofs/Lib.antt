pub mod Hex
pub mod Lines
pub mod Rows
pub mod Twos

-- Taken   what a batch has taken in of two sheets
pub mod Taken

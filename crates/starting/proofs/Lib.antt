-- Starts by marks are the starts of Table 5; the scan that numbers them.
pub mod Starts
pub mod Numbers

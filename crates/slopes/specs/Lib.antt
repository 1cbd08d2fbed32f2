pub mod Steepest

-- The packed work buffer as the program reads and writes it.
pub mod Halves

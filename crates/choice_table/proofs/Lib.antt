-- Table    an entry of a list of 256
-- Entries  the table of choices
pub mod Entries
pub mod Table

-- The counts while they are copied out of their words; the tail of a sheet of codes.
pub mod Copies
pub mod Sheet

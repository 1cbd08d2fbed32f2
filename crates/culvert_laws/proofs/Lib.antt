-- Opened    the cells of an opened sheet: its elevations, its voids and its range
-- Alike     opening cells moves neither voids nor gaps nor outlets
-- Asked     15 and 16, and all questions of the call, as gates
-- Entries   the named laws: the order of entries, the lowest level named for a cell, the empty list, one entry
pub mod Opened
pub mod Alike
pub mod Asked
pub mod Entries

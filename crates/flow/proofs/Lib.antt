-- Seeds  the word of a cell of level 0, and the first data cell without a level
-- Flats  the sum over the equal neighbours one level lower, and the code of a cell
pub mod Seeds
pub mod Flats

-- Beside     a neighbour of level 0 of one's own elevation
-- Touched    what a look at a neighbour does
-- Spreading  the state of the look at the neighbours of the queue's first
pub mod Beside
pub mod Touched
pub mod Spreading

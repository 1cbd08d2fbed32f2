-- Keyed      what a key that was read says of its cell
-- Within     a data cell that is not at level 0: where it lies, and that two such neighbours are equal
-- Spreading  the look at the neighbours of the queue's first
-- Joined     the look for cells of level 1
pub mod Keyed
pub mod Within
pub mod Spreading
pub mod Joined

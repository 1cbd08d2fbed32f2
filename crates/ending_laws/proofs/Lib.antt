-- The laws of shared endings, by topic:
--   Longest      the walk back from both ends finds the longest shared ending; where it lies in the first list
--   Meeting      two routes that end, with no geometry: from a common cell on they are one
--   Accepted     what an accepted sheet of codes says, and which sheets are accepted
--   Joining      whole routes on an accepted sheet pass 19, and their shared ending is where they join
pub mod Longest
pub mod Meeting
pub mod Accepted
pub mod Joining

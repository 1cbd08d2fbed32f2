-- The laws of labels that are used twice.
--   Running     the lowest so far, one number after the other
--   Repeats     the lowest repeated label, by what a search shows of it
--   Listing     the labels as a list: gathered, and after a pass of the sort
--   Seen        one walk along the list finds its lowest number that stands twice
--   Answers     that number gives the cell of question 24
--   TableFive   Table 5's own starts have no label twice
pub mod Running
pub mod Repeats
pub mod Listing
pub mod Seen
pub mod Answers
pub mod TableFive

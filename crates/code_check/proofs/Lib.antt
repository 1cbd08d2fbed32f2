-- From the answers of 11 and 12 to what is promised of them.
pub mod Answers

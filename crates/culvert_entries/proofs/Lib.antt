-- Asked    questions 15 and 16 by keys, entry by entry
-- Loaded   to keep the lower of two keys opens the sheet that the keys spell
pub mod Asked
pub mod Loaded

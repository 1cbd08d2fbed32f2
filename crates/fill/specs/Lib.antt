-- What the fill's contracts speak of.
--   Words   the sheet that keys spell, and the flood's words
pub mod Words

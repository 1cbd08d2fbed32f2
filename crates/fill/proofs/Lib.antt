-- What the fill's steps come to.
--   Flooded   what the flood leaves has the certificate of the filled sheet
--   Words     the sheet that keys spell, and what the words of the flood say
--   Voids     sheets with the same voids, and those without
--   Loops     what the loops have done
--   Steps     the steps of the flood together
--   Promise   the answer to the questions, and the promise of the call
pub mod Flooded
pub mod Words
pub mod Voids
pub mod Loops
pub mod Steps
pub mod Promise

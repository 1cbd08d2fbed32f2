-- What is asked about a lent sheet of codes.
pub mod Asked

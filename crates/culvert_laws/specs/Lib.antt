-- Asked   the questions of the call before 18
pub mod Asked

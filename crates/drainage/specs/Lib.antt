-- What the steps to the four results need and leave.
pub mod Results

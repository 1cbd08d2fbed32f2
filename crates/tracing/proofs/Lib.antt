-- Which crew is the first that is lost; from the answers to the questions to the promises.
pub mod Traces
pub mod Promise

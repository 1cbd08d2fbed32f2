-- What flows into a cell, and the words of the pass that hands counts down.
pub mod Inflow
pub mod Passing

pub mod Elevations

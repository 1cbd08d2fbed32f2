-- Products the squares of a cell's width and height
-- Classes  the largest drop by classes of equally far positions
-- Drops    drops as differences of keys
pub mod Drops
pub mod Products
pub mod Classes

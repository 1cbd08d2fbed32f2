-- Squares  distances in another unit: square cells
-- Shapes   what does not depend on the shape
pub mod Squares
pub mod Shapes

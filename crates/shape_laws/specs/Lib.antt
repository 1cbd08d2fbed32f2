-- What a yes to 20 says of the shape.
pub mod Shaped

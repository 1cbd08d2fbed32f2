-- What a yes to 5 and 6 says of the sizes.
pub mod Sizes

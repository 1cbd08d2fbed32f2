pub mod Seeding
pub mod Coding

pub mod Asked
pub mod Numbers
pub mod Bytes
pub mod Places
pub mod Written
pub mod Rewritten
pub mod Calls

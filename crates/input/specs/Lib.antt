pub mod Zeros
pub mod Taken

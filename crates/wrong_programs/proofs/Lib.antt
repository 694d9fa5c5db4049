pub mod Refuted
pub mod Constants

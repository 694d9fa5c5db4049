pub mod Hex
pub mod Questions
pub mod Marked

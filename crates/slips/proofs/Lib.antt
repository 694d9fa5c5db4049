pub mod Format
pub mod Trouble
pub mod Theorems
pub mod Loops

pub mod Digits
pub mod Reading
pub mod Text
pub mod Pairs

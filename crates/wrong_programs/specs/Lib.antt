pub mod Samples
pub mod Readers
pub mod Records
pub mod Checks
pub mod Rings
pub mod Trays
pub mod Wrong

pub mod Sames
pub mod Readings
pub mod Parsing
pub mod Eights

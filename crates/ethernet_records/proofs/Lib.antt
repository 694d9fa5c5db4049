pub mod FramedReading
pub mod Exact
pub mod Taking
pub mod Short

pub mod Told
pub mod Lines
pub mod Reading

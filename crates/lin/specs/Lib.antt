pub mod Fields
pub mod Tail
pub mod Tables

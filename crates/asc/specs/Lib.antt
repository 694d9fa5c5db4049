pub mod Tells
pub mod Writes
pub mod Objects
pub mod Lines
pub mod Replies

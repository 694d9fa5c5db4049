pub mod Replies
pub mod Records
pub mod Lists
pub mod Lines
pub mod Rings
pub mod Trays

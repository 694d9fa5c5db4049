pub mod Answers
pub mod Tray
pub mod Claims
pub mod Replies

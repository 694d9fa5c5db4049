pub mod Answers
pub mod Rows
pub mod Columns
pub mod Comparing
pub mod Replies
pub mod Claims
pub mod Turns

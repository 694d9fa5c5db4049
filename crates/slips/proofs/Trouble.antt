-- Of entries, and of the first trouble.
pub mod Entries
pub mod Least
pub mod Troubles

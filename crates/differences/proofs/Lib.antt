pub mod Turning
pub mod Counting
pub mod Filling
pub mod Comparisons

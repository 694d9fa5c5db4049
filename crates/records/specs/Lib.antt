pub mod Object
pub mod Rewrite
pub mod Copied
pub mod ReadBack

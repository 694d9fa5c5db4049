pub mod Decimals
pub mod Texts
pub mod Listings
pub mod Exact

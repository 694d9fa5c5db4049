pub mod Lending
pub mod Recording
pub mod Lining
pub mod Entering
pub mod ListExact

pub mod Outside
pub mod Desk

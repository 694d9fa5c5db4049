pub mod Turns
pub mod Laying
pub mod Places
pub mod One
pub mod Each

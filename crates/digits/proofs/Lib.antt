pub mod Glyphs
pub mod Digits
pub mod Texts
pub mod Loops
pub mod PairLaws

pub mod ForeignLaws
pub mod ObjectLaws
pub mod Copies
pub mod Rewriting
pub mod ForeignBack
pub mod WriteRead

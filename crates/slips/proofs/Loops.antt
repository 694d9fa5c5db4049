-- That the code is the definition: what its loops know, and what each way out answers.
pub mod Cutting
pub mod Turns
pub mod Places
pub mod Beside
pub mod Strays
pub mod Merges
pub mod MergingLog
pub mod Checking

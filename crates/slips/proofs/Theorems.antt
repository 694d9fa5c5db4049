-- What the check answers, said of logs and bundles.
pub mod Told
pub mod Verdicts
pub mod Sharing
pub mod Honest
pub mod Counted

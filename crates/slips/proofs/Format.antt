-- Of entries and slips and their bytes.
pub mod EntryBytes
pub mod Chunks
pub mod SlipFaults
pub mod SlipBytes
pub mod Cuts

-- The words in which the contracts of the inner functions are written: what is left of the slips, and the merge. Nobody
-- need believe them: `check`'s own contract and the theorems do not name them.
pub mod Inside
pub mod Rests
pub mod Merge
pub mod Pass

-- Auxiliary: what an index keeps, what a search of lines finds, and the lexis as functions (used by
-- proofs, invariants and equality).
pub mod Blocks
pub mod Kept
pub mod LineMarks
pub mod LineSearch
pub mod Reading
pub mod Scan

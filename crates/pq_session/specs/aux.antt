-- Auxiliary: definitions that proofs, invariants and private clauses use. No public contract rests
-- on them.
pub mod ItemOf
pub mod ServerState
pub mod Answered
pub mod Steps
pub mod Starts
pub mod Shown
pub mod Cutting

-- Auxiliary: definitions that proofs, invariants and private clauses use. No public contract rests
-- on them.
pub mod Beginning
pub mod Reader

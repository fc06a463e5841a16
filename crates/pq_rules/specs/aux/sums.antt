-- Auxiliary: that the example keeps the laws of a rule set (used by proofs and invariants only).
pub mod Cuts
pub mod Falls
pub mod Laws
pub mod Exact

-- Auxiliary: nothing below this module has to be believed (used by proofs and invariants only).
pub mod Ends
pub mod Kinds
pub mod Vacant

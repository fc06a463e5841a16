-- Auxiliary: nothing below this module has to be believed (used by proofs and invariants only).
pub mod SameNodes
pub mod Queries
pub mod Falls
pub mod Adding
pub mod Joined
pub mod Following
pub mod Mentioned

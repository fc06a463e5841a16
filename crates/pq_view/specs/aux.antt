-- Auxiliary: nothing below this module has to be believed (used by proofs and invariants only).
pub mod Rests
pub mod Sights
pub mod Touched
pub mod Known
pub mod Owing
pub mod News
pub mod Faces
pub mod Tails

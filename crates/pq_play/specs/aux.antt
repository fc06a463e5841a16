-- Auxiliary: nothing below this module has to be believed (used by proofs and invariants only).
pub mod Seats
pub mod Running
pub mod Playing

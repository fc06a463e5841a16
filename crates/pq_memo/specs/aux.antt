-- Auxiliary: nothing below this module has to be believed (used by proofs and invariants only).
pub mod Tests
pub mod Durabilities
pub mod Written
pub mod Frames
pub mod Demand
pub mod Stack
pub mod Numbers
pub mod Slots

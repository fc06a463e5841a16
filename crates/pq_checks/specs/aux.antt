-- Auxiliary: nothing below this module has to be believed (used by proofs and invariants only).
pub mod Spots
pub mod Seen
pub mod Sets
pub mod Cover
pub mod Lines
pub mod Views
pub mod Imports
pub mod DiagnosticsTurns
pub mod Gathering
pub mod Queries
pub mod Falls
pub mod CheckKinds
pub mod Exact

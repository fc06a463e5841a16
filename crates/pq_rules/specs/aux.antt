-- Auxiliary: nothing below this module has to be believed (used by proofs and invariants only).
pub mod AnswerTable
pub mod Codes
pub mod Evaluator
pub mod Lists
pub mod KeysBy
pub mod Runs
pub mod sums

-- Auxiliary: nothing below this module has to be believed (used by proofs and invariants only).
pub mod Rests
pub mod Sizes
pub mod Firsts
pub mod Printed
pub mod Parts
pub mod Views
pub mod Outputs
pub mod KeyOrder
pub mod RuleSet
pub mod ProtoLaws
pub mod Exact

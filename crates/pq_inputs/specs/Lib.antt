pub mod Sources
pub mod Changes
pub mod Refusal
pub mod aux

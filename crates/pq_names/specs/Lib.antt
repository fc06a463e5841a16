pub mod Limits
pub mod TextOrder
pub mod aux

pub mod Accepts
pub mod Library
pub mod Status

pub mod Aligning
pub mod Running
pub mod Leading
pub mod Carrying
pub mod Finishing
pub mod Ruled

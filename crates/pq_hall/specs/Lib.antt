pub mod Carried
pub mod Marks
pub mod Sending
pub mod Steps
pub mod aux

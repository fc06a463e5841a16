pub mod HeaderLemmas
pub mod FrameLemmas
pub mod RunLemmas
pub mod OneReading
pub mod WrittenLemmas
pub mod Totality
pub mod MessageLemmas

pub mod Last
pub mod Histories
pub mod FileTests
pub mod EntryLemmas
pub mod Soundness

pub mod Places
pub mod OrderLemmas
pub mod Cases

pub mod Gathering
pub mod NoFloats
pub mod Splicing

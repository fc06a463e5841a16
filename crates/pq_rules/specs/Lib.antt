pub mod Turns
pub mod Relations
pub mod Value
pub mod Laws
pub mod Embedding
pub mod InSum
pub mod sums
pub mod aux

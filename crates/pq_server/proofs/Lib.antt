pub mod FillLemmas
pub mod ListLemmas

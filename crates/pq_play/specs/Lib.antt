pub mod World
pub mod Headline
pub mod Steps
pub mod Results
pub mod aux

pub mod Json
pub mod Imports
pub mod Links
pub mod Faults
pub mod Said
pub mod Reports

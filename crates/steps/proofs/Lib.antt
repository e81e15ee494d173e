pub mod Fields
pub mod Mappings
pub mod Numbers
pub mod Step
pub mod Once

pub mod Memory
pub mod Demands
pub mod Once

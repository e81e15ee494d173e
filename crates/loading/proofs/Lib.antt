pub mod Turns
pub mod Opposed
pub mod Trivial
pub mod Undone
pub mod Witness
pub mod Once

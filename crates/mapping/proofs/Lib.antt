-- What is proved of a witness in the table.
pub mod Pairs
pub mod Unloading
pub mod Loading
pub mod Images
pub mod Once

-- What is proved of a payload read in turn.
pub mod First
pub mod Room
pub mod Once

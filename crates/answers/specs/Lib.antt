-- What the run of a proof starts from.
pub mod Run

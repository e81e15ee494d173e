-- What the code says of a step.
pub mod Step

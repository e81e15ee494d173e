-- What the reading of the formula says, and the clause table that it leaves.
pub mod Reading

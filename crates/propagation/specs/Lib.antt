-- What propagation asks of the table, and what it leaves.
pub mod Propagated

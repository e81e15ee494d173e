-- Literals assumed in the table of the variables.
pub mod Loading

-- The mappings of a witness in the table of the variables.
pub mod Mapping

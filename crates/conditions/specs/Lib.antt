-- What is asked of the table and the live clauses before a question, and what its answer says.
pub mod Asked

-- The clause that a word of the clause table stands for, and the live clauses that the table holds.
pub mod Clause
pub mod Live

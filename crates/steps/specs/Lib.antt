-- What the code's answers say in the paper's words, and the clause table cleared of a list of numbers.
pub mod Steps

-- What the checker promises, in the paper's order. Definitions only; what is proved of them stands in proofs/.
pub mod Atoms
pub mod Files
pub mod Conditions
pub mod Stowages
pub mod Sweeps
pub mod Refusals
pub mod Answers
pub mod Line
-- what the reading has seen of the files, kept from step to step: inner contracts cite it, the promise does not
pub mod Valid

-- What the checks of one clause's codes say, and the marks that they make.
pub mod Check

pub mod HeadRead
pub mod Clause
pub mod Entering
pub mod Once

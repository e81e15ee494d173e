pub mod Clause
pub mod Lands
pub mod Live
pub mod Table
pub mod Once

pub mod Run
pub mod Files
pub mod Once

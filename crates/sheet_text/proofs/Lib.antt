pub mod Rows
pub mod Files
pub mod Example
pub mod Laws

pub mod Digits
pub mod Rows
pub mod Files
pub mod Back
pub mod Example
pub mod Laws

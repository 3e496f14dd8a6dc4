pub mod Saids
pub mod Puts
pub mod Steps
pub mod Walks
pub mod Ends
pub mod Never
pub mod Short
pub mod Example

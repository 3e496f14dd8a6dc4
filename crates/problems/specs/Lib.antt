pub mod Problems
pub mod Answers
pub mod Passes
pub mod Records

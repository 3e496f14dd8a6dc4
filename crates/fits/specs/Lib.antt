pub mod Decision
pub mod Answers
pub mod Promise
pub mod Cases

pub mod Places
pub mod Tests
pub mod Answers
pub mod Promise

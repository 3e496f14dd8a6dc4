pub mod Phrases
pub mod Readings
pub mod Calls

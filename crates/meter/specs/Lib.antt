pub mod Meters
pub mod Starts
pub mod Counts
pub mod Fits
pub mod Answers
pub mod Promise

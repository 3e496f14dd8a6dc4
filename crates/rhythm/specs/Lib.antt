pub mod Values
pub mod Joins
pub mod Cuts
pub mod Changes
pub mod Makes

pub mod Outcomes
pub mod Sorting
pub mod Joined
pub mod Ratio
pub mod Pulses
pub mod Readings
pub mod Laws

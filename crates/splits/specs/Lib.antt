pub mod Splits
pub mod Readings

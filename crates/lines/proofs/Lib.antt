pub mod Order
pub mod Searching
pub mod Ranges
pub mod Readings
pub mod Laws

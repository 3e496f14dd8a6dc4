pub mod Transports
pub mod Changes
pub mod Advances
pub mod Readings
pub mod Promise
pub mod Words

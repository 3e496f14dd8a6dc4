pub mod Notes
pub mod Sorting
pub mod Promise

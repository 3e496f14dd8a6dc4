pub mod Fills
pub mod Numbers
pub mod Carried
pub mod Promise

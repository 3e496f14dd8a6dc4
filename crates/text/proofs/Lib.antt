pub mod Puts
pub mod Pages
pub mod Parts
pub mod Readings
pub mod Laws

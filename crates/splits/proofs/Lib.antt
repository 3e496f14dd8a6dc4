pub mod Runs
pub mod Parts
pub mod Searches
pub mod Places
pub mod Laws

pub mod Places
pub mod Chunks
pub mod Whole
pub mod Accepted
pub mod Laws

pub mod Carrying
pub mod Blocks
pub mod Laws

pub mod Loops
pub mod Cases
pub mod Readings
pub mod Carrying
pub mod Advancing
pub mod Sound
pub mod Composes
pub mod Laws

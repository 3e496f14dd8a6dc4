pub mod Testing
pub mod Tempos
pub mod Bars
pub mod Readings
pub mod Sound
pub mod Laws

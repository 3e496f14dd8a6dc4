pub mod Reading
pub mod Ratios
pub mod Tempos
pub mod Decimals
pub mod Back
pub mod Laws

pub mod Sounding
pub mod CueCall
pub mod Readings
pub mod Exactly
pub mod Promise
pub mod Plans

pub mod Walking
pub mod Testing
pub mod Readings
pub mod Cases
pub mod Zeros
pub mod Rising
pub mod Laws

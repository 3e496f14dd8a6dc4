pub mod Tests
pub mod Lowest
pub mod Laws

pub mod Lowest
pub mod Refusing
pub mod Fitted
pub mod Grid
pub mod Values
pub mod Ordering
pub mod Fractions
pub mod Laws

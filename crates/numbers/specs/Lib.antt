pub mod Answers
pub mod Refusals
pub mod Signs
pub mod Bits
pub mod Divisor
pub mod Exacts
pub mod Lists

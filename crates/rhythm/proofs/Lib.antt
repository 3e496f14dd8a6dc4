pub mod Sums
pub mod Repeats
pub mod Windows
pub mod Gridding
pub mod Even
pub mod Remainders
pub mod Laws

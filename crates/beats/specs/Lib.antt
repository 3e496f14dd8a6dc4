pub mod Beats
pub mod Sums
pub mod Frames
pub mod Steps
pub mod Values

pub mod Tempos
pub mod Answers
pub mod Rising
pub mod Maps

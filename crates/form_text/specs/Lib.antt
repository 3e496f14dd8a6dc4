pub mod TempoTexts
pub mod Forms

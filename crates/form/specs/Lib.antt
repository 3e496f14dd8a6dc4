pub mod Drafts
pub mod Forms
pub mod Promise
pub mod Messages

pub mod Messages
pub mod InWords

pub mod Lines
pub mod InWords

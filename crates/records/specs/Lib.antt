pub mod Records
pub mod InWords

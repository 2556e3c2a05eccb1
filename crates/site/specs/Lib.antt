pub mod Site
pub mod InWords

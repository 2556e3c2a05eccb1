pub mod Choices
pub mod Kept

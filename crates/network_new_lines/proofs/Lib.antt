pub mod ClearWords
pub mod Replacing

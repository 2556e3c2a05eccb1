pub mod Words
pub mod Shaped

pub mod Parts
pub mod Chunks
pub mod Walks
pub mod Steps

pub mod Bytes
pub mod File
pub mod Reading
pub mod Promises
pub mod Example
pub mod Statements

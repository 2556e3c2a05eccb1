pub mod Fields
pub mod Parse
pub mod Print
pub mod Answers
pub mod Scripts
pub mod Examples

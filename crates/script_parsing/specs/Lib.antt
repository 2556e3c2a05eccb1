pub mod Asked
pub mod Parsed

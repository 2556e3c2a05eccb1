pub mod Gathered
pub mod Asked

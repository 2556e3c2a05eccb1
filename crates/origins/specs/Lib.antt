pub mod Origin
pub mod Statements

pub mod Value
pub mod Plain
pub mod Arrays

pub mod Asked
pub mod Laid

pub mod Asked
pub mod Fits

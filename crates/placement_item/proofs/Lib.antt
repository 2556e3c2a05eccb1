pub mod Bits
pub mod LineBits

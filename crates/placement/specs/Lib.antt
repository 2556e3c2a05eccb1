pub mod Masks
pub mod Placement
pub mod InWords
pub mod Places

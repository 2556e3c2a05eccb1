pub mod Answer
pub mod Played

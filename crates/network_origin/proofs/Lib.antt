pub mod OriginLaws
pub mod Played

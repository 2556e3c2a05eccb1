pub mod Assembled
pub mod Performs
pub mod Asked
pub mod Played
pub mod OnNetwork
pub mod Questions
pub mod AccessLaws

pub mod Timestamp
pub mod Numbers
pub mod Comparisons
pub mod OrderLaws
pub mod PartingLaws
pub mod Made
pub mod Examples

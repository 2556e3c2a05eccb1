pub mod Timestamp
pub mod Order
pub mod Parting
pub mod Made
pub mod Examples

pub mod Shifts
pub mod Items
pub mod Laws
pub mod Places
pub mod Cycles
pub mod Groups
pub mod Examples

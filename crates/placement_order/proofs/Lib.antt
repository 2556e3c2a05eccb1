pub mod First
pub mod Tables
pub mod Filled
pub mod Order
pub mod Lines
pub mod Upward

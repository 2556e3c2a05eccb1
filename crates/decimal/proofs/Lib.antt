pub mod Digits
pub mod Printing
pub mod Signs
pub mod Values
pub mod Again

pub mod Layout
pub mod InWords
pub mod At
pub mod Promises
pub mod Reading
pub mod Played
pub mod Lent

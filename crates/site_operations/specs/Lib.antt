pub mod Operations
pub mod ReadRule
pub mod Examples
pub mod InWords
pub mod ChangedItems

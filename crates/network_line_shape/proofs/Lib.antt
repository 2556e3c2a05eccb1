pub mod LineLaws
pub mod Walk

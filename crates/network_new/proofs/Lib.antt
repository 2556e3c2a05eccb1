pub mod StartWords
pub mod NewWords

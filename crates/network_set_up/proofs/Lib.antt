pub mod ItemWords
pub mod SetUpLaws

pub mod First
pub mod RoundLaws

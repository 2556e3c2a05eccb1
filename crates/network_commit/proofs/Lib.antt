pub mod CommitLaws
pub mod OperationWords

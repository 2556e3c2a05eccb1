pub mod RenamingLaws

pub mod PartingWords

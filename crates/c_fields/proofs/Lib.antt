pub mod FieldWords

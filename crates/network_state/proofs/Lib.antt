pub mod RecordWords

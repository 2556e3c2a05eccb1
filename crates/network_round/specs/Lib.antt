pub mod Round

pub mod StampWords

pub mod Answers
pub mod Lists
pub mod Numbers
pub mod Sorting

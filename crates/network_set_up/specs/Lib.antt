pub mod SetUp

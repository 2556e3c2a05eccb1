pub mod LineTests

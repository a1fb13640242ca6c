pub mod View
pub mod Runs
pub mod Tests

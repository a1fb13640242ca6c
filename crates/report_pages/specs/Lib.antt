pub mod Reports
pub mod Sinks
pub mod Accepted

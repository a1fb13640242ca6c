pub mod Users
pub mod Starts

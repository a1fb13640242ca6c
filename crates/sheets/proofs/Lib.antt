pub mod Written
pub mod Lengths
pub mod Examples

pub mod Chains
pub mod Elements
pub mod Written
pub mod Reasons

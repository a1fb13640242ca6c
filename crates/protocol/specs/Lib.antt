pub mod Tasks
pub mod Machine
pub mod Lines
pub mod Answers
pub mod Laws
pub mod Served

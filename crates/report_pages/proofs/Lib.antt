pub mod Known
pub mod Lengths
mod Columns
mod Sinks

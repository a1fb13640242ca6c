pub mod Stacked
pub mod Stacks

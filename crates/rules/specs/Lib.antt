pub mod Meaning
pub mod Numbered

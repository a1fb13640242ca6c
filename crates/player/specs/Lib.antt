pub mod Playing
pub mod Numbered
pub mod Players

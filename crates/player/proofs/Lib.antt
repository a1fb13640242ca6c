pub mod Plays
pub mod Counting
pub mod Filling

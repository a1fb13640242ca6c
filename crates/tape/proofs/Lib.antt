pub mod Digits
pub mod Numerals
pub mod Legal
pub mod Splits

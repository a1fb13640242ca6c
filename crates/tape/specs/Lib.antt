pub mod Numbers
pub mod Lines
pub mod Written
pub mod Tapes
pub mod Items

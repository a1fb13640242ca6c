pub mod LineLaws
mod Running

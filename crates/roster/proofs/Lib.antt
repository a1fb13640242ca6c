pub mod ServedTasks
mod Ticks

mod Held
pub mod Keeps
mod Lines
pub mod PastCounts
pub mod Rows
pub mod Unpacked
mod Ways

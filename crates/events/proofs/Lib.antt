pub mod Turns
pub mod Ticks
pub mod Refusals
pub mod Clear
pub mod Changes

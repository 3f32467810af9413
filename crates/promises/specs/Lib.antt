pub mod Bytes
pub mod Demand1
pub mod Demand2
pub mod Demand3
pub mod Paper
pub mod Stalled
pub mod Unique

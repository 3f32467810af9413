pub mod Numbers
pub mod Writing
pub mod Text

pub mod Sets
pub mod Table
pub mod Interference
pub mod Answer
pub mod Computed

pub mod Computed
pub mod Doing

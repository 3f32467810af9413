pub mod Arrays
pub mod Computed

pub mod Changes
pub mod Computed

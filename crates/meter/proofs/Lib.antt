pub mod Decided
pub mod Metered

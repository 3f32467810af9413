pub mod Chains
pub mod Stored
pub mod Parts
pub mod Image
pub mod Local
pub mod Alike

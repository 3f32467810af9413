pub mod Packed
pub mod Tables
pub mod Exported
pub mod Metering

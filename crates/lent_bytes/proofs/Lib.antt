pub mod Writing
pub mod Stands
pub mod Endian
pub mod Codec
pub mod Parts
pub mod Digits
pub mod Decimal

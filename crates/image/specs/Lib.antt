pub mod Layout
pub mod Encoded
pub mod Decoded
pub mod Fits
pub mod InUse

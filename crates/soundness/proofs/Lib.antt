pub mod Agree
pub mod Facts
pub mod Passed
pub mod Same
pub mod Turns

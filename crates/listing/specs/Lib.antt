pub mod Text
pub mod Listing
pub mod Replay
pub mod Computed
pub mod Writer

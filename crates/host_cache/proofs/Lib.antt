pub mod Kept
pub mod Dropped

pub mod Parts
pub mod Openings
pub mod Steps
pub mod Events
pub mod Bytes
pub mod Told
pub mod Starts
pub mod Finishes

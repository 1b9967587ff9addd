pub mod Heads
pub mod Parts
pub mod Room
pub mod Made

pub mod Parts
pub mod Texts
pub mod Bytes
pub mod Starts
pub mod Finishes
pub mod Views
